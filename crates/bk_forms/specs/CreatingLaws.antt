-- CREATE DATABASE looks at most two tokens ahead.
use Rattle.std.proofs.Common.{ℕ, ◌≤◌, ◌&&◌, Bool, true, false, if◌then◌else◌, List, [], ◌∷◌, ◌++◌, length, drop, Option, Some, None, Ok, arith, refl, length-drop}
use Rattle.std.specs.Prelude.{codes}
use Rattle.bk_token.specs.declared.token.Token.{Token}
use Rattle.bk_items.specs.declared.item.SizeUnit.{SizeUnit}
use Rattle.bk_items.specs.declared.item.NewFile.{NewFile}
use Rattle.bk_items.specs.declared.item.NewGroup.{NewGroup}
use Rattle.bk_parse.specs.Parse.{Parsed, ◌>>=◌, next_is, next_sign, keyword, skip, name}
use Rattle.bk_parse.specs.Ahead.{Agrees, behind_it, left_over}
use Rattle.bk_parse.specs.Laws.{quiet, later, done, stuck-ahead, and_then, if_next, behind_by, behind_next, skipped-ahead, OneToken, taken, not_taken, one-ahead, name-one, keyword-ahead, skip-ahead, sign-ahead, name-ahead, filled_text-ahead, equal_filled-ahead, equal_number-ahead}
use Rattle.bk_forms.specs.Creating.{or_text, name_or_text, unit_word, sized, size, next_unit, skip_unit, maximum, growth, more_growth, maximum_or_growth, more_limits, settings, more_settings, file_name, file, next_file, next_group, files_from, files, group, groups_from, groups, on_files, log_on, create_database}

or_text-ahead : (src : List ℕ) (more : List Token) (t : Token) (ts : List Token) {p q : Parsed (List ℕ × List Token)} → OneToken more t ts p q →
    Agrees behind_it more (t ∷ ts) (or_text p src (t ∷ ts)) (or_text q src (t ∷ (ts ++ more)))
or_text-ahead src more t ts (taken x) = one-ahead {t = t} (taken x)
or_text-ahead src more t ts not_taken = filled_text-ahead src more (t ∷ ts)

name_or_text-ahead : (src : List ℕ) (more ts : List Token) → Agrees behind_it more ts (name_or_text src ts) (name_or_text src (ts ++ more))
unfolding name_or_text name
name_or_text-ahead src more [] = quiet (omega arith) (filled_text-ahead src more [])
name_or_text-ahead src more (t ∷ ts) = or_text-ahead src more t ts (name-one src more t ts)

sized-ahead : (count : ℕ) (found : Option SizeUnit) (more : List Token) (t : Token) (ts : List Token) →
    Agrees behind_it more (t ∷ ts) (Ok (sized count found (t ∷ ts))) (Ok (sized count found (t ∷ (ts ++ more))))
sized-ahead count None more t ts = done
sized-ahead count (Some u) more t ts = later done

with_unit-ahead : (count : ℕ) (src : List ℕ) (more ts : List Token) → Agrees behind_it more ts (Ok (sized count (unit_word src ts) ts)) (Ok (sized count (unit_word src (ts ++ more)) (ts ++ more)))
unfolding unit_word
with_unit-ahead count src more [] = quiet (omega arith) done
with_unit-ahead count src more (t ∷ ts) = sized-ahead count (unit_word src (t ∷ ts)) more t ts

size-ahead : (src : List ℕ) (more ts : List Token) → Agrees behind_it more ts (size src ts) (size src (ts ++ more))
unfolding size
size-ahead src more ts = and_then _ _ (equal_number-ahead more ts) (λ a h. with_unit-ahead a.0 src more a.1)

skip_unit-ahead : (src : List ℕ) (more ts : List Token) → Agrees left_over more ts (Ok (skip_unit src ts)) (Ok (skip_unit src (ts ++ more)))
skip_unit-ahead src more ts = skipped-ahead ts (λ us. next_unit src us) (λ t u us. refl)

maximum-ahead : (src : List ℕ) (more ts : List Token) → Agrees left_over more ts (maximum src ts) (maximum src (ts ++ more))
unfolding maximum
maximum-ahead src more ts =
    if_next ts (λ us. next_sign us 61 && next_is src (drop 1 us) (codes "UNLIMITED")) (λ t u us. refl)
    (behind_next ts (λ us. Ok (drop 1 us)) (λ us. behind_next us Ok (λ vs. done)))
    (and_then _ _ (equal_number-ahead more ts) (λ a h. skip_unit-ahead src more a.1))

passed-ahead : (a b : Bool) (more : List Token) (t : Token) (ts : List Token) →
    Agrees left_over more (t ∷ ts) (Ok (if a then ts else (if b then ts else t ∷ ts))) (Ok (if a then ts ++ more else (if b then ts ++ more else t ∷ (ts ++ more))))
passed-ahead true b more t ts = later done
passed-ahead false true more t ts = later done
passed-ahead false false more t ts = done

share_or_unit-ahead : (src : List ℕ) (more ts : List Token) →
    Agrees left_over more ts (Ok (if next_sign ts 37 then drop 1 ts else skip_unit src ts)) (Ok (if next_sign (ts ++ more) 37 then drop 1 (ts ++ more) else skip_unit src (ts ++ more)))
share_or_unit-ahead src more [] = quiet (omega arith) done
share_or_unit-ahead src more (t ∷ ts) = passed-ahead (next_sign (t ∷ ts) 37) (next_unit src (t ∷ ts)) more t ts

growth-ahead : (src : List ℕ) (more ts : List Token) → Agrees left_over more ts (growth src ts) (growth src (ts ++ more))
unfolding growth
growth-ahead src more ts =
    and_then _ _ (keyword-ahead src (codes "FILEGROWTH") more ts) (λ a h.
    and_then _ _ (equal_number-ahead more a) (λ b h. share_or_unit-ahead src more b.1))

more_growth-ahead : (src : List ℕ) (more ts : List Token) → Agrees left_over more ts (more_growth src ts) (more_growth src (ts ++ more))
unfolding more_growth
more_growth-ahead src more ts =
    if_next ts (λ us. next_sign us 44) (λ t u us. refl) (behind_next ts (growth src) (growth-ahead src more)) done

maximum_or_growth-ahead : (src : List ℕ) (more ts : List Token) → Agrees left_over more ts (maximum_or_growth src ts) (maximum_or_growth src (ts ++ more))
unfolding maximum_or_growth
maximum_or_growth-ahead src more ts =
    if_next ts (λ us. next_is src us (codes "MAXSIZE")) (λ t u us. refl)
    (and_then _ _ (behind_next ts (maximum src) (maximum-ahead src more)) (λ a h. more_growth-ahead src more a)) (growth-ahead src more ts)

more_limits-ahead : (src : List ℕ) (more ts : List Token) → Agrees left_over more ts (more_limits src ts) (more_limits src (ts ++ more))
unfolding more_limits
more_limits-ahead src more ts =
    if_next ts (λ us. next_sign us 44) (λ t u us. refl) (behind_next ts (maximum_or_growth src) (maximum_or_growth-ahead src more)) done

settings-ahead : (src : List ℕ) (more ts : List Token) → Agrees behind_it more ts (settings src ts) (settings src (ts ++ more))
unfolding settings
settings-ahead src more ts =
    if_next ts (λ us. next_is src us (codes "SIZE")) (λ t u us. refl)
    (and_then _ _ (behind_next ts (size src) (size-ahead src more)) (λ a h.
    and_then _ _ (more_limits-ahead src more a.1) (λ b h. done))) (and_then _ _ (maximum_or_growth-ahead src more ts) (λ a h. done))

more_settings-ahead : (src : List ℕ) (more ts : List Token) → Agrees behind_it more ts (more_settings src ts) (more_settings src (ts ++ more))
unfolding more_settings
more_settings-ahead src more ts =
    if_next ts (λ us. next_sign us 44) (λ t u us. refl) (behind_next ts (settings src) (settings-ahead src more)) done

file_name-ahead : (src : List ℕ) (more ts : List Token) → Agrees behind_it more ts (file_name src ts) (file_name src (ts ++ more))
unfolding file_name
file_name-ahead src more ts =
    and_then _ _ (sign-ahead 40 more ts) (λ a h.
    and_then _ _ (keyword-ahead src (codes "NAME") more a) (λ b h.
    and_then _ _ (sign-ahead 61 more b) (λ c h. name_or_text-ahead src more c)))

file-ahead : (src : List ℕ) (more ts : List Token) → Agrees behind_it more ts (file src ts) (file src (ts ++ more))
unfolding file
file-ahead src more ts =
    and_then _ _ (file_name-ahead src more ts) (λ a h.
    and_then _ _ (sign-ahead 44 more a.1) (λ b h.
    and_then _ _ (keyword-ahead src (codes "FILENAME") more b) (λ c h.
    and_then _ _ (equal_filled-ahead src more c) (λ d h.
    and_then _ _ (more_settings-ahead src more d.1) (λ e h.
    and_then _ _ (sign-ahead 41 more e.1) (λ f h. done))))))

-- the tokens where a list begins bound it, and so do more tokens
files_from-ahead : (src : List ℕ) (left : List Token) (found : List NewFile) (more ts : List Token) → length ts ≤ length left →
    Agrees behind_it more ts (files_from src left found ts) (files_from src (left ++ more) found (ts ++ more))
unfolding files_from
files_from-ahead src [] found more ts few = quiet (omega (arith, few)) (stuck-ahead behind_it more ts)
files_from-ahead src (x ∷ left) found more ts few =
    and_then _ _ (file-ahead src more ts) (λ a h.
    if_next a.1 (λ us. next_file src us) (λ t u us. refl)
    (behind_by a.1 (files_from src left (found ++ a.0 ∷ [])) (files_from src (left ++ more) (found ++ a.0 ∷ []))
    (files_from-ahead src left (found ++ a.0 ∷ []) more (drop 1 a.1) (omega (arith, few, h, length-drop 1 a.1)))) done)

files-ahead : (src : List ℕ) (more ts : List Token) → Agrees behind_it more ts (files src ts) (files src (ts ++ more))
unfolding files
files-ahead src more ts = files_from-ahead src ts [] more ts (omega arith)

group-ahead : (src : List ℕ) (more ts : List Token) → Agrees behind_it more ts (group src ts) (group src (ts ++ more))
unfolding group
group-ahead src more ts =
    and_then _ _ (keyword-ahead src (codes "FILEGROUP") more ts) (λ a h.
    and_then _ _ (name-ahead src more a) (λ b h.
    and_then _ _ (files-ahead src more b.1) (λ c h. done)))

groups_from-ahead : (src : List ℕ) (left : List Token) (found : List NewGroup) (more ts : List Token) → length ts ≤ length left →
    Agrees behind_it more ts (groups_from src left found ts) (groups_from src (left ++ more) found (ts ++ more))
unfolding groups_from
groups_from-ahead src [] found more ts few = let x : List NewGroup × List Token = (found, ts) in quiet (omega (arith, few)) (done {x = x})
groups_from-ahead src (x ∷ left) found more ts few =
    if_next ts (λ us. next_group src us) (λ t u us. refl)
    (behind_by ts (λ us. group src us >>= λ g. groups_from src left (found ++ g.0 ∷ []) g.1) (λ us. group src us >>= λ g. groups_from src (left ++ more) (found ++ g.0 ∷ []) g.1)
    (and_then _ _ (group-ahead src more (drop 1 ts)) (λ a h. groups_from-ahead src left (found ++ a.0 ∷ []) more a.1 (omega (arith, few, h, length-drop 1 ts))))) done

groups-ahead : (src : List ℕ) (more ts : List Token) → Agrees behind_it more ts (groups src ts) (groups src (ts ++ more))
unfolding groups
groups-ahead src more ts = groups_from-ahead src ts [] more ts (omega arith)

on_files-ahead : (src : List ℕ) (more ts : List Token) → Agrees behind_it more ts (on_files src ts) (on_files src (ts ++ more))
unfolding on_files
on_files-ahead src more ts =
    if_next ts (λ us. next_is src us (codes "ON")) (λ t u us. refl)
    (and_then _ _ (behind_next ts (λ us. files src (skip src (codes "PRIMARY") us)) (λ us. skip-ahead src (codes "PRIMARY") more us (files src) (files-ahead src more))) (λ a h.
    and_then _ _ (groups-ahead src more a.1) (λ b h. done))) done

log_on-ahead : (src : List ℕ) (more ts : List Token) → Agrees behind_it more ts (log_on src ts) (log_on src (ts ++ more))
unfolding log_on
log_on-ahead src more ts =
    if_next ts (λ us. next_is src us (codes "LOG")) (λ t u us. refl)
    (and_then _ _ (behind_next ts (keyword src (codes "ON")) (keyword-ahead src (codes "ON") more)) (λ a h.
    and_then _ _ (file-ahead src more a) (λ b h. done))) done

pub create_database-ahead : (src : List ℕ) (more ts : List Token) → Agrees behind_it more ts (create_database src ts) (create_database src (ts ++ more))
unfolding create_database
create_database-ahead src more ts =
    and_then _ _ (name-ahead src more ts) (λ a h.
    and_then _ _ (on_files-ahead src more a.1) (λ b h.
    and_then _ _ (log_on-ahead src more b.1) (λ c h. done)))
