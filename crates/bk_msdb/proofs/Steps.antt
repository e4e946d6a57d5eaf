-- What reading the file, making it and adding a row come to.
use Rattle.std.proofs.Common.{◌≡◌, ◌⊎◌, ◌≤◌, ◌+◌, ℕ, Bool, true, false, List, [], ◌∷◌, ◌++◌, length, map, take, max, Option, Some, None, refl, inl, inr, sym, ap, subst, ◌∙◌, arith, lit<}
use Rattle.std.specs.Prelude.{slice_get, Result, Ok, Err, OnOk}
use Rattle.std.proofs.lemmas.List.{length-map, take_all, take_more}
use Rattle.std.proofs.lemmas.Option.{get_or_from_slice_get, slice_get_within}
use Rattle.bk_device.specs.Calls.{contents, written, LeavesSame, LeavesWrite, CallsOn, ChangesNothing}
use Rattle.bk_device.specs.Compose.{effect_then, effect_weaken, effect_none, effect_of_nothing, effect_of_sync}
use Rattle.bk_device.specs.Disk.{Files, Disk, IsDurable, IsLawful}
use Rattle.bk_device.specs.Effects.{Effect, IsName}
use Rattle.bk_device.specs.Laws.{durable_by_nothing, effect_after_nothing, torn-contents}
use Rattle.bk_gate.specs.Blobs.{sealed, spans_of, part_of, IsGateFile}
use Rattle.bk_gate.specs.BlobLaws.{ended_spans, foreign_blobs, no_blobs, short_blob}
use Rattle.bk_gate.specs.Gate.{IsGate, Kept as KeptGate}
use Rattle.bk_gate.specs.Laws.{blobs_are, gate_left}
use Rattle.bk_gate.specs.Opened.{IsOpened, opened_stands}
use Rattle.bk_machine.specs.declared.history_row.HistoryRow.{HistoryRow}
use Rattle.bk_msdb.specs.Laws.{row_shown, shows_same, with_blobs_behind}
use Rattle.bk_msdb.specs.Msdb.{Adds, GrowsBy, IsReady, IsUnmade, Shows, empty_file, msdb_file, tables_of, with_blob, with_blobs}
use Rattle.bk_msdb.specs.Rows.{Tables, no_rows, with_row}
use Rattle.bk_msdb.specs.Spelling.{read_row}

-- what follows from two facts of a call that succeeded
pub on_ok_both : {T E P Q R : Type 0} (r : Result T E) → (P → Q → R) → OnOk r P → OnOk r Q → OnOk r R
on_ok_both (Ok x) f p q = f p q
on_ok_both (Err e) f p q = tt

-- ---- making the file

nothing_sealed : sealed None ≡ []
nothing_sealed = no_blobs [] (ended_spans [] (short_blob [] 16 (lit< tt)))

-- what a write of so few bytes leaves of an absent file has no blob
torn_empty : (n : ℕ) (file before : Option (List ℕ)) → n ≡ 17 → before ≡ None → LeavesWrite 0 n before file → sealed file ≡ []
torn_empty n file before is gone leaves =
    let torn = torn-contents 0 n before file leaves in
    let empty : length (contents before) ≡ 0 = ap (λ (f : Option (List ℕ)). length (contents f)) gone in
    let longest : length (contents file) ≤ max (length (contents before)) (0 + n) = torn.no_longer in
    no_blobs (contents file) (ended_spans (contents file) (short_blob (contents file) 16 (omega (arith, longest, empty, is))))

-- a crash leaves what it might have left, or no blob
abbrev pub IsBefore : List ℕ → Disk → Files → Type 0
IsBefore name a image = a.may name (image name) ⊎ (sealed (image name) ≡ [])

-- the old file was removed
pub made_removed : (name : List ℕ) (a b : Disk) → Effect (IsName name) (λ image. a.may name (image name) ⊎ (image name ≡ None)) a b → Effect (IsName name) (IsBefore name a) a b
made_removed name a b effect = effect_weaken (λ image either. elim either [ inl before ↦ inl before | inr none ↦ inr (ap sealed none ∙ nothing_sealed) ]) effect

-- and the new one written
pub made_written : (n : ℕ) (name : List ℕ) (a b c : Disk) → n ≡ 17 → Effect (IsName name) (λ image. a.may name (image name) ⊎ (image name ≡ None)) a b → b.files name ≡ None → Effect (IsName name) (λ image. LeavesWrite 0 n (b.files name) (image name)) b c → Effect (IsName name) (IsBefore name a) a c
made_written n name a b c is first gone second =
    effect_then (made_removed name a b first) (effect_weaken (λ image leaves. inr (torn_empty n (image name) (b.files name) is gone leaves)) second)

-- its bytes
pub made_file : (name : List ℕ) (b c : Disk) → b.files name ≡ None → c.files name ≡ Some (written (contents (b.files name)) 0 empty_file) → c.files name ≡ Some empty_file
made_file name b c gone wrote = wrote ∙ ap (λ (file : Option (List ℕ)). Some (written (contents file) 0 empty_file)) gone

-- the gate of a file that was made stands
pub made_gate : {gate : KeptGate} (name : List ℕ) (c : Disk) → name ≡ gate.name → IsOpened empty_file gate → c.files name ≡ Some empty_file → IsDurable c name → IsGate c gate
made_gate {gate = gate} name c is opened made durable =
    let file : contents (c.files gate.name) ≡ empty_file = ap (λ (n : List ℕ). contents (c.files n)) (sym is) ∙ ap contents made in
    let Opened : List ℕ → Type 0 = λ f. IsOpened f gate in
    let Durable : List ℕ → Type 0 = λ n. IsDurable c n in
    opened_stands (subst Opened (sym file) opened) (subst Durable is durable)

-- it has no blob, as before
pub made_sealed : (name given : List ℕ) (a c : Disk) → given ≡ name → sealed (a.files name) ≡ [] → c.files given ≡ Some empty_file → sealed (c.files name) ≡ sealed (a.files name)
made_sealed name given a c is none made =
    let size : sealed (Some empty_file) ≡ [] = no_blobs empty_file (ended_spans empty_file (short_blob empty_file 16 (lit< tt))) in
    ap (λ (n : List ℕ). sealed (c.files n)) (sym is) ∙ ap sealed made ∙ size ∙ sym none

-- so each crash leaves the blobs that there were
pub made_same : (name given : List ℕ) (a c : Disk) → given ≡ name → IsDurable a name → sealed (a.files name) ≡ [] → Effect (IsName given) (IsBefore given a) a c → Effect (IsName name) (λ image. sealed (image name) ≡ sealed (a.files name)) a c
made_same name given a c is durable none effect =
    let At : List ℕ → Type 0 = λ n. Effect (IsName n) (IsBefore n a) a c in
    effect_weaken (λ image either. elim either [ inl before ↦ ap sealed (durable (image name) before) | inr nothing ↦ nothing ∙ sym none ]) (subst At is effect)

-- where the file is made already nothing is done
pub still_same : (a : Disk) (gate : KeptGate) → IsGate a gate → Effect (IsName gate.name) (λ image. sealed (image gate.name) ≡ sealed (a.files gate.name)) a a
still_same a gate is = effect_none a (λ image mine. gate_left (image gate.name) is (mine gate.name refl))

-- which of the two it is
pub is_made_gate : (a : Disk) (gate : KeptGate) (is_made : Bool) → is_made ≡ true → IsReady a gate is_made → IsGate a gate
is_made_gate a gate is_made is ready = let Ready : Bool → Type 0 = λ b. IsReady a gate b in subst Ready is ready

pub is_unmade_gate : (a : Disk) (gate : KeptGate) (is_made : Bool) → is_made ≡ false → IsReady a gate is_made → IsUnmade a gate
is_unmade_gate a gate is_made is ready = let Ready : Bool → Type 0 = λ b. IsReady a gate b in subst Ready is ready

-- ---- a blob that is sealed

abbrev pub Keeps : List ℕ → Disk → Files → Type 0
Keeps name a image = sealed (image name) ≡ sealed (a.files name)

abbrev pub Grows : List ℕ → List ℕ → Disk → Files → Type 0
Grows name bytes a image = Keeps name a image ⊎ (sealed (image name) ≡ sealed (a.files name) ++ bytes ∷ [])

-- the file is seen to, and then the blob sealed
pub sealed_crash : (name bytes : List ℕ) (a b c : Disk) → sealed (b.files name) ≡ sealed (a.files name) → Effect (IsName name) (Keeps name a) a b → Effect (IsName name) (Grows name bytes b) b c → Effect (IsName name) (Grows name bytes a) a c
sealed_crash name bytes a b c same first second =
    effect_then (effect_weaken (λ image kept. inl kept) first)
    (effect_weaken (λ image either. elim either [
      | inl kept ↦ inl (kept ∙ same)
      | inr grown ↦ inr (grown ∙ ap (λ (blobs : List (List ℕ)). blobs ++ bytes ∷ []) same)
    ]) second)

-- the spare is no part of what stands
pub ready_reserved : (a : Disk) (gate : KeptGate) (spare : ℕ) (is_made : Bool) → IsReady a gate is_made → IsReady a (record gate { spare = spare }) is_made
ready_reserved a gate spare true ready = record { at = ready.at; room = ready.room }
ready_reserved a gate spare false ready = record { opened = record { stands = ready.opened.stands; shut = ready.opened.shut; none = ready.opened.none }; durable = ready.durable; none = ready.none }

-- ---- a row that is added

-- the spare is no part of what is ready
pub ready_at : (a : Disk) (gate reserved : KeptGate) (is_made : Bool) → reserved ≡ record gate { spare = reserved.spare } → IsReady a gate is_made → IsReady a reserved is_made
ready_at a gate reserved is_made same ready = let Ready : KeptGate → Type 0 = λ k. IsReady a k is_made in subst Ready (sym same) (ready_reserved a gate reserved.spare is_made ready)

-- more room leaves the name
pub same_name : (gate reserved : KeptGate) → reserved ≡ record gate { spare = reserved.spare } → reserved.name ≡ gate.name
same_name gate reserved same = ap (λ (k : KeptGate). k.name) same

-- the file is under its name
pub durable_there : (c : Disk) (name : List ℕ) → name ≡ msdb_file → IsDurable c name → IsDurable c msdb_file
durable_there c name is durable = let Durable : List ℕ → Type 0 = λ n. IsDurable c n in subst Durable is durable

-- a blob was sealed behind what was opened
pub grown_there : (name bytes : List ℕ) (a b c : Disk) → name ≡ msdb_file → IsLawful a → ChangesNothing a b → Effect (IsName name) (Grows name bytes b) b c → Effect (IsName msdb_file) (GrowsBy bytes a.files) a c
grown_there name bytes a b c is lawful call effect =
    let At : List ℕ → Type 0 = λ n. Effect (IsName n) (Grows n bytes b) b c in
    let same : b.files msdb_file ≡ a.files msdb_file = call.files msdb_file in
    effect_after_nothing lawful call (effect_weaken (λ image either. elim either [
      | inl kept ↦ inl (kept ∙ ap sealed same)
      | inr grown ↦ inr (grown ∙ ap (λ (file : Option (List ℕ)). sealed file ++ bytes ∷ []) same)
    ]) (subst At is effect))

pub sealed_there : (name bytes : List ℕ) (a b c : Disk) → name ≡ msdb_file → ChangesNothing a b → sealed (c.files name) ≡ sealed (b.files name) ++ bytes ∷ [] → sealed (c.files msdb_file) ≡ sealed (a.files msdb_file) ++ bytes ∷ []
sealed_there name bytes a b c is call grown =
    let Grown : List ℕ → Type 0 = λ n. sealed (c.files n) ≡ sealed (b.files n) ++ bytes ∷ [] in
    subst Grown is grown ∙ ap (λ (file : Option (List ℕ)). sealed file ++ bytes ∷ []) (call.files msdb_file)

-- where nothing was done, the file has the blobs that it had
pub none_grown : (bytes : List ℕ) (a b : Disk) → IsDurable a msdb_file → ChangesNothing a b → Effect (IsName msdb_file) (GrowsBy bytes a.files) a b
none_grown bytes a b durable call = effect_of_nothing (λ image mine. inl (ap sealed (durable (image msdb_file) (mine msdb_file refl)))) call

-- what the blob spells is the row: a crash leaves the tables without it or with it
pub added_crash : (bytes : List ℕ) (row : HistoryRow) (tables : Tables) (a b c : Disk) → IsLawful a → ChangesNothing a b → Shows a.files tables → read_row bytes ≡ Some row → Effect (IsName msdb_file) (GrowsBy bytes b.files) b c → Effect (IsName msdb_file) (Adds tables row) a c
unfolding tables_of
added_crash bytes row tables a b c lawful call shows reads effect =
    let there : Shows b.files tables = shows_same a.files b.files tables (call.files msdb_file) shows in
    effect_after_nothing lawful call (effect_weaken (λ image either. elim either [
      | inl kept ↦ inl (ap (with_blobs no_rows) kept ∙ there)
      | inr grown ↦ inr (row_shown (b.files msdb_file) (image msdb_file) bytes row grown reads ∙ ap (λ (t : Tables). with_row t row) there)
    ]) effect)

-- and the file shows the tables with it
pub added_shows : (bytes : List ℕ) (row : HistoryRow) (tables : Tables) (a b c : Disk) → ChangesNothing a b → Shows a.files tables → read_row bytes ≡ Some row → sealed (c.files msdb_file) ≡ sealed (b.files msdb_file) ++ bytes ∷ [] → Shows c.files (with_row tables row)
added_shows bytes row tables a b c call shows reads grown =
    row_shown (b.files msdb_file) (c.files msdb_file) bytes row grown reads ∙ ap (λ (t : Tables). with_row t row) (shows_same a.files b.files tables (call.files msdb_file) shows)

-- where nothing was done, each crash leaves the tables
pub none_added : (row : HistoryRow) (tables : Tables) (a : Disk) → IsDurable a msdb_file → Shows a.files tables → Effect (IsName msdb_file) (Adds tables row) a a
none_added row tables a durable shows = effect_none a (λ image mine. inl (shows_same a.files image tables (durable (image msdb_file) (mine msdb_file refl)) shows))

-- nor while the file is made durable
pub synced_added : (row : HistoryRow) (tables : Tables) (a b : Disk) → IsDurable a msdb_file → Shows a.files tables → CallsOn msdb_file LeavesSame a b → Effect (IsName msdb_file) (Adds tables row) a b
synced_added row tables a b durable shows call = effect_of_sync refl (λ image mine. inl (shows_same a.files image tables (durable (image msdb_file) (mine msdb_file refl)) shows)) call

-- whatever is pending, no other file is touched
pub spares_none : (a : Disk) → Effect (IsName msdb_file) (λ image. Unit {0}) a a
spares_none a = effect_none a (λ image mine. tt)

pub spares_synced : (a b : Disk) → CallsOn msdb_file LeavesSame a b → Effect (IsName msdb_file) (λ image. Unit {0}) a b
spares_synced a b call = effect_of_sync refl (λ image mine. tt) call

pub spares_added : {P : Files → Type 0} (a b c : Disk) → IsLawful a → ChangesNothing a b → Effect (IsName msdb_file) P b c → Effect (IsName msdb_file) (λ image. Unit {0}) a c
spares_added a b c lawful call effect = effect_after_nothing lawful call (effect_weaken (λ image left. tt) effect)

-- ---- reading the rows

-- one blob more
pub read_more : (file : Option (List ℕ)) (i : ℕ) (blob read : List ℕ) (tables after : Tables) → after ≡ with_blob tables read → read ≡ blob → slice_get (sealed file) i ≡ Some blob → tables ≡ with_blobs no_rows (take i (sealed file)) → after ≡ with_blobs no_rows (take (i + 1) (sealed file))
read_more file i blob read tables after put same there are =
    let front : take (i + 1) (sealed file) ≡ take i (sealed file) ++ blob ∷ [] =
    take_more (sealed file) i blob (slice_get_within (sealed file) i blob there) ∙ ap (λ (b : List ℕ). take i (sealed file) ++ b ∷ []) (get_or_from_slice_get (sealed file) i blob blob there) in
    let blobs : with_blob tables blob ≡ with_blobs no_rows (take i (sealed file) ++ blob ∷ []) = ap (λ (t : Tables). with_blob t blob) are ∙ sym (with_blobs_behind no_rows (take i (sealed file)) (blob ∷ [])) in
    put ∙ ap (with_blob tables) same ∙ blobs ∙ ap (with_blobs no_rows) (sym front)

-- all of them
pub read_all : (file : Option (List ℕ)) (spans : List (ℕ × ℕ)) (i : ℕ) (tables : Tables) → IsGateFile (contents file) → spans ≡ spans_of (contents file) → length spans ≤ i → tables ≡ with_blobs no_rows (take i (sealed file)) → tables_of file ≡ tables
unfolding tables_of
read_all file spans i tables gate are end is =
    let blobs : sealed file ≡ map (part_of (contents file)) spans = blobs_are (contents file) spans gate are in
    let count : length (sealed file) ≡ length spans = ap length blobs ∙ length-map spans (part_of (contents file)) in
    sym (is ∙ ap (with_blobs no_rows) (take_all i (sealed file) (omega (arith, count, end))))

-- ---- what was opened

-- the blobs of a gate lie where they lay
pub spans_there : {a b : Disk} (gate : KeptGate) (name : List ℕ) → gate.name ≡ name → ChangesNothing a b → gate.spans ≡ spans_of (contents (a.files name)) → gate.spans ≡ spans_of (contents (b.files gate.name))
spans_there {b = b} gate name is call are = are ∙ ap (λ (file : Option (List ℕ)). spans_of (contents file)) (sym (ap b.files is ∙ call.files name))

pub gate_there : {a b : Disk} (gate : KeptGate) (name : List ℕ) → gate.name ≡ name → ChangesNothing a b → IsGateFile (contents (a.files name)) → IsGateFile (contents (b.files gate.name))
gate_there {b = b} gate name is call at = let Gate : Option (List ℕ) → Type 0 = λ file. IsGateFile (contents file) in subst Gate (sym (ap b.files is ∙ call.files name)) at

-- where the file is no gate file, its gate is still to be made
pub begun_ready : {a b : Disk} (gate : KeptGate) → gate.name ≡ msdb_file → IsOpened empty_file gate → ChangesNothing a b → IsDurable a msdb_file → (IsGateFile (contents (a.files msdb_file)) → ⊥) → IsUnmade b gate
begun_ready {a = a} {b = b} gate is opened call durable foreign =
    let Durable : List ℕ → Type 0 = λ n. IsDurable b n in
    record {
      opened = opened;
      durable = subst Durable (sym is) (durable_by_nothing msdb_file call durable);
      none = ap sealed (ap b.files is ∙ call.files msdb_file) ∙ foreign_blobs (contents (a.files msdb_file)) foreign;
    }
