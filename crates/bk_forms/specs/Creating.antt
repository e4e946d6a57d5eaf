-- CREATE DATABASE.
use Rattle.std.specs.Prelude.{ℕ, Bool, not, ◌&&◌, ◌||◌, if◌then◌else◌, List, [], ◌∷◌, ◌++◌, drop, codes, Option, Some, None, Ok}
use Rattle.bk_token.specs.declared.token.Token.{Token}
use Rattle.bk_items.specs.declared.item.SizeUnit.{SizeUnit}
use Rattle.bk_items.specs.declared.item.SizeUnit.TheVariants.{Kb, Mb, Gb, Extents}
use Rattle.bk_items.specs.declared.item.Size.{Size}
use Rattle.bk_items.specs.declared.item.NewFile.{NewFile}
use Rattle.bk_items.specs.declared.item.NewGroup.{NewGroup}
use Rattle.bk_items.specs.declared.item.ScriptItem.{ScriptItem}
use Rattle.bk_items.specs.declared.item.ScriptItem.TheVariants.{CreateDatabase}
use Rattle.bk_parse.specs.Parse.{equal_filled, equal_number, Parsed, ◌>>=◌, stuck, next_is, next_sign, keyword, skip, sign, name, filled_text}

abbrev pub or_text : Parsed (List ℕ × List Token) → List ℕ → List Token → Parsed (List ℕ × List Token)
or_text (Ok n) src ts = Ok n
or_text _ src ts = filled_text src ts

-- a name, or a text that isn't empty
unfoldable pub name_or_text : List ℕ → List Token → Parsed (List ℕ × List Token)
name_or_text src ts = or_text (name src ts) src ts

-- KB, MB, GB or EXTENTS
unfoldable pub unit_word : List ℕ → List Token → Option SizeUnit
unit_word src ts =
    if next_is src ts (codes "KB") then Some Kb
    else (if next_is src ts (codes "MB") then Some Mb
    else (if next_is src ts (codes "GB") then Some Gb
    else (if next_is src ts (codes "EXTENTS") then Some Extents
    else None)))

abbrev pub sized : ℕ → Option SizeUnit → List Token → Size × List Token
sized n None ts = (record { count = n; unit = None }, ts)
sized n (Some u) ts = (record { count = n; unit = Some u }, drop 1 ts)

-- = n, with a unit or without
unfoldable pub size : List ℕ → List Token → Parsed (Size × List Token)
size src ts = do
  n ← equal_number ts
  Ok (sized n.0 (unit_word src n.1) n.1)

-- whether the next token is a unit that a greatest size and a growth may have
abbrev pub next_unit : List ℕ → List Token → Bool
next_unit src ts =
    next_is src ts (codes "KB") || next_is src ts (codes "MB") || next_is src ts (codes "GB") || next_is src ts (codes "EXTENTS") || next_is src ts (codes "TB")

abbrev pub skip_unit : List ℕ → List Token → List Token
skip_unit src ts = if next_unit src ts then drop 1 ts else ts

-- = UNLIMITED, or = n with a unit or without
unfoldable pub maximum : List ℕ → List Token → Parsed (List Token)
maximum src ts =
    if next_sign ts 61 && next_is src (drop 1 ts) (codes "UNLIMITED") then Ok (drop 1 (drop 1 ts))
    else (do
      n ← equal_number ts
      Ok (skip_unit src n.1))

-- FILEGROWTH = n, with a unit, a % or nothing
unfoldable pub growth : List ℕ → List Token → Parsed (List Token)
growth src ts = do
  word ← keyword src (codes "FILEGROWTH") ts
  n ← equal_number word
  Ok (if next_sign n.1 37 then drop 1 n.1 else skip_unit src n.1)

-- , FILEGROWTH .., or nothing
unfoldable pub more_growth : List ℕ → List Token → Parsed (List Token)
more_growth src ts = if next_sign ts 44 then growth src (drop 1 ts) else Ok ts

-- MAXSIZE .. , FILEGROWTH .., or FILEGROWTH ..
unfoldable pub maximum_or_growth : List ℕ → List Token → Parsed (List Token)
maximum_or_growth src ts =
    if next_is src ts (codes "MAXSIZE") then (do
      rest ← maximum src (drop 1 ts)
      more_growth src rest)
    else growth src ts

-- , MAXSIZE .. or , FILEGROWTH .., or nothing
unfoldable pub more_limits : List ℕ → List Token → Parsed (List Token)
more_limits src ts = if next_sign ts 44 then maximum_or_growth src (drop 1 ts) else Ok ts

-- SIZE .., MAXSIZE .. or FILEGROWTH .., and what may follow
unfoldable pub settings : List ℕ → List Token → Parsed (Option Size × List Token)
settings src ts =
    if next_is src ts (codes "SIZE") then (do
      s ← size src (drop 1 ts)
      rest ← more_limits src s.1
      Ok (Some s.0, rest))
    else (do
      rest ← maximum_or_growth src ts
      Ok (None, rest))

-- , settings, or nothing
unfoldable pub more_settings : List ℕ → List Token → Parsed (Option Size × List Token)
more_settings src ts = if next_sign ts 44 then settings src (drop 1 ts) else Ok (None, ts)

-- ( NAME = name
unfoldable pub file_name : List ℕ → List Token → Parsed (List ℕ × List Token)
file_name src ts = do
  opened ← sign 40 ts
  word ← keyword src (codes "NAME") opened
  equal ← sign 61 word
  name_or_text src equal

-- ( NAME = name , FILENAME = text , settings )
unfoldable pub file : List ℕ → List Token → Parsed (NewFile × List Token)
file src ts = do
  n ← file_name src ts
  comma ← sign 44 n.1
  word ← keyword src (codes "FILENAME") comma
  p ← equal_filled src word
  s ← more_settings src p.1
  closed ← sign 41 s.1
  Ok (record { name = n.0; path = p.0; size = s.0 }, closed)

-- whether a comma comes next that FILEGROUP follows
abbrev pub next_group : List ℕ → List Token → Bool
next_group src ts = next_sign ts 44 && next_is src (drop 1 ts) (codes "FILEGROUP")

-- whether a comma comes next that FILEGROUP doesn't follow
abbrev pub next_file : List ℕ → List Token → Bool
next_file src ts = next_sign ts 44 && not (next_is src (drop 1 ts) (codes "FILEGROUP"))

-- files with commas between, added to these; each takes a token, so that the tokens where they begin bound their number
unfoldable pub files_from : List ℕ → List Token → List NewFile → List Token → Parsed (List NewFile × List Token)
files_from src [] found ts = stuck ts
files_from src (_ ∷ left) found ts = do
  f ← file src ts
  if next_file src f.1 then files_from src left (found ++ f.0 ∷ []) (drop 1 f.1) else Ok (found ++ f.0 ∷ [], f.1)

-- files with commas between
unfoldable pub files : List ℕ → List Token → Parsed (List NewFile × List Token)
files src ts = files_from src ts [] ts

-- FILEGROUP name files
unfoldable pub group : List ℕ → List Token → Parsed (NewGroup × List Token)
group src ts = do
  word ← keyword src (codes "FILEGROUP") ts
  n ← name src word
  f ← files src n.1
  Ok (record { name = n.0; files = f.0 }, f.1)

-- filegroups, each behind a comma, added to these; each takes a token, so that the tokens where they begin bound their number
unfoldable pub groups_from : List ℕ → List Token → List NewGroup → List Token → Parsed (List NewGroup × List Token)
groups_from src [] found ts = Ok (found, ts)
groups_from src (_ ∷ left) found ts =
    if next_group src ts then (do
      g ← group src (drop 1 ts)
      groups_from src left (found ++ g.0 ∷ []) g.1)
    else Ok (found, ts)

-- filegroups, each behind a comma
unfoldable pub groups : List ℕ → List Token → Parsed (List NewGroup × List Token)
groups src ts = groups_from src ts [] ts

-- ON PRIMARY files , filegroups, or nothing
unfoldable pub on_files : List ℕ → List Token → Parsed ((List NewFile × List NewGroup) × List Token)
on_files src ts =
    if next_is src ts (codes "ON") then (do
      f ← files src (skip src (codes "PRIMARY") (drop 1 ts))
      g ← groups src f.1
      Ok ((f.0, g.0), g.1))
    else Ok (([], []), ts)

-- LOG ON file, or nothing
unfoldable pub log_on : List ℕ → List Token → Parsed (Option NewFile × List Token)
log_on src ts =
    if next_is src ts (codes "LOG") then (do
      word ← keyword src (codes "ON") (drop 1 ts)
      f ← file src word
      Ok (Some f.0, f.1))
    else Ok (None, ts)

-- name ON PRIMARY files , filegroups LOG ON file
unfoldable pub create_database : List ℕ → List Token → Parsed (ScriptItem × List Token)
create_database src ts = do
  n ← name src ts
  o ← on_files src n.1
  l ← log_on src o.1
  Ok (CreateDatabase n.0 o.0.0 o.0.1 l.0, l.1)
