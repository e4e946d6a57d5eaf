-- What the layers above may take of what is kept of a database's log and units: what is read of it is spelled so, and what is spelled so is read.
use Rattle.std.proofs.Common.{◌≡◌, ◌≤◌, ◌<◌, ◌+◌, ◌*◌, ◌^◌, ℕ, zero, suc, Bool, true, false, List, [], ◌∷◌, ◌++◌, length, Option, Some, None, refl, sym, subst, ap, ◌∙◌, lit<, arith, append_assoc, length-append}
use Rattle.std.specs.List.{flat_map}
use Rattle.std.proofs.lemmas.List.{append-nil}
use Rattle.std.proofs.lemmas.Option.{same_Some}
use Rattle.bk_bytes.specs.Codec.{Codec, IsCodec, number, string}
use Rattle.bk_bytes.specs.CodecLaws.{AreBytes-after, bind_some, number-IsCodec, string-IsCodec, followed-IsCodec, converted-IsCodec, counted-IsCodec}
use Rattle.bk_bytes.specs.Field.{AreBytes, bytes_of}
use Rattle.bk_bytes.specs.FieldLaws.{length-bytes_of}
use Rattle.bk_fields.specs.Guids.{guid_bytes, guid_form, guid_number}
use Rattle.bk_fields.specs.Laws.{guid_form-IsCodec}
use Rattle.bk_ids.specs.declared.unit.UnitId.{UnitId}
use Rattle.bk_ids.specs.declared.unit.UnitId.TheVariants.{File, Page}
use Rattle.bk_world.specs.declared.database.Base.{Base}
use Rattle.bk_world.specs.declared.database.State.{State}
use Rattle.bk_world.specs.declared.database.State.TheVariants as state
use Rattle.bk_world.specs.declared.database.Status.{Status}
use Rattle.bk_world.specs.declared.database.Status.TheVariants as status
use Rattle.bk_world.specs.declared.database.Unit.{Unit as RestoreUnit}
use Rattle.bk_points.specs.declared.points.LogPoints.{LogPoints}
use Rattle.bk_points.specs.declared.points.Points.{Points}
use Rattle.bk_points.specs.Points.{IsBase, IsId, IsLogPoints, IsPoints, IsState, IsStatus, IsUnit, KeepsPoints, base_behind, base_bytes, base_fields, base_form, by_kind, flags_at, flags_form, flags_number, id_behind, id_bytes, id_form, log_points_bytes, log_points_form, log_points_of, made_of, page_fields, points_bytes, points_form, restoring_fields, state_behind, state_bytes, state_form, status_behind, status_bytes, status_form, unit_bytes, unit_form, units_bytes}

-- ---- a choice: a byte, and what is chosen behind it

-- what is read behind a byte is spelled so with it
abbrev TakesBehind : {A : Type 0} → (A → List ℕ) → (A → Type 0) → ℕ → (List ℕ → Option (A × List ℕ)) → Type 0
TakesBehind {A} spelling Fits kind reading =
    (bytes : List ℕ) (x : A) (rest : List ℕ) → AreBytes bytes → reading bytes ≡ Some (x, rest) → (bytes_of 1 kind ++ bytes ≡ spelling x ++ rest) × Fits x

-- one value alone
bare-takes : {A : Type 0} (spelling : A → List ℕ) (Fits : A → Type 0) (kind : ℕ) (value : A) → spelling value ≡ bytes_of 1 kind → Fits value
    → TakesBehind spelling Fits kind (λ bytes. Some (value, bytes))
bare-takes {A} spelling Fits kind value is fits bytes x rest are e =
    subst (λ (p : A × List ℕ). (bytes_of 1 kind ++ bytes ≡ spelling p.0 ++ p.1) × Fits p.0) (same_Some (value, bytes) (x, rest) e) (ap (λ (s : List ℕ). s ++ bytes) (sym is), fits)

-- a value that is made of fields
made-takes : {A B : Type 0} (spelling : B → List ℕ) (Fits : B → Type 0) (kind : ℕ) (fields : Codec A) (make : A → B) → IsCodec A fields
    → ((x : A) → spelling (make x) ≡ bytes_of 1 kind ++ fields.spelling x) → ((x : A) → fields.Fits x → Fits (make x)) → TakesBehind spelling Fits kind (made_of fields make)
made-takes {A} {B} spelling Fits kind fields make law is fit bytes y rest are e =
    let b = bind_some (fields.reading bytes) (λ x. Some (make x.0, x.1)) (y, rest) e in
    let t = law.takes bytes b.0.0 b.0.1 are b.1 in
    let whole : bytes_of 1 kind ++ bytes ≡ spelling (make b.0.0) ++ b.0.1 =
    ap (λ (s : List ℕ). bytes_of 1 kind ++ s) t.0 ∙ sym (append_assoc (bytes_of 1 kind) (fields.spelling b.0.0) b.0.1) ∙ ap (λ (s : List ℕ). s ++ b.0.1) (sym (is b.0.0)) in
    subst (λ (p : B × List ℕ). (bytes_of 1 kind ++ bytes ≡ spelling p.0 ++ p.1) × Fits p.0) (same_Some (make b.0.0, b.0.1) (y, rest) b.2) (whole, fit b.0.0 t.1)

-- the byte before it
kind-takes : {A : Type 0} (spelling : A → List ℕ) (Fits : A → Type 0) (behind : ℕ → List ℕ → Option (A × List ℕ)) → ((kind : ℕ) → TakesBehind spelling Fits kind (behind kind))
    → (bytes : List ℕ) (x : A) (rest : List ℕ) → AreBytes bytes → by_kind behind bytes ≡ Some (x, rest) → (bytes ≡ spelling x ++ rest) × Fits x
kind-takes spelling Fits behind takes bytes x rest are e =
    let b = bind_some ((number 1).reading bytes) (λ k. behind k.0 k.1) (x, rest) e in
    let kind = (number-IsCodec 1).takes bytes b.0.0 b.0.1 are b.1 in
    let t = takes b.0.0 b.0.1 x rest (AreBytes-after bytes (bytes_of 1 b.0.0) b.0.1 are kind.0) b.2 in
    (kind.0 ∙ t.0, t.1)

-- the reading goes on behind the byte
kind-gives : {A : Type 0} (behind : ℕ → List ℕ → Option (A × List ℕ)) (kind : ℕ) (bytes : List ℕ) → kind < 256 ^ 1 → by_kind behind (bytes_of 1 kind ++ bytes) ≡ behind kind bytes
kind-gives behind kind bytes small = rw ((number-IsCodec 1).gives kind bytes small) refl

-- and reads the fields there
made-gives : {A B : Type 0} (behind : ℕ → List ℕ → Option (B × List ℕ)) (kind : ℕ) (fields : Codec A) (make : A → B) → IsCodec A fields → kind < 256 ^ 1
    → ((bytes : List ℕ) → behind kind bytes ≡ made_of fields make bytes) → (x : A) (rest : List ℕ) → fields.Fits x
    → by_kind behind ((bytes_of 1 kind ++ fields.spelling x) ++ rest) ≡ Some (make x, rest)
made-gives {A} {B} behind kind fields make law small is x rest fits =
    let made : made_of fields make (fields.spelling x ++ rest) ≡ Some (make x, rest) = rw (law.gives x rest fits) refl in
    ap (by_kind behind) (append_assoc (bytes_of 1 kind) (fields.spelling x) rest) ∙ kind-gives behind kind (fields.spelling x ++ rest) small ∙ is (fields.spelling x ++ rest) ∙ made

-- ---- each form

flags_form-IsCodec : IsCodec (Bool × Bool) flags_form
unfolding flags_form
flags_form-IsCodec = converted-IsCodec (number 1) flags_at (λ flags. flags_number flags.0 flags.1) (λ _. Unit {0}) (number-IsCodec 1) (record {
  takes = λ n flags fits e. (flags_takes n flags e, tt);
  gives = λ flags h. flags_gives flags.0 flags.1;
})
  where
    flags_takes : (n : ℕ) (flags : Bool × Bool) → flags_at n ≡ Some flags → flags_number flags.0 flags.1 ≡ n
    flags_takes zero flags e = ap (λ (f : Bool × Bool). flags_number f.0 f.1) (sym (same_Some (false, false) flags e))
    flags_takes (suc zero) flags e = ap (λ (f : Bool × Bool). flags_number f.0 f.1) (sym (same_Some (true, false) flags e))
    flags_takes (suc (suc zero)) flags e = ap (λ (f : Bool × Bool). flags_number f.0 f.1) (sym (same_Some (false, true) flags e))
    flags_takes (suc (suc (suc zero))) flags e = ap (λ (f : Bool × Bool). flags_number f.0 f.1) (sym (same_Some (true, true) flags e))
    flags_takes (suc (suc (suc (suc n)))) flags e = absurd cc

    flags_gives : (chain began : Bool) → (flags_at (flags_number chain began) ≡ Some (chain, began)) × (flags_number chain began < 256 ^ 1)
    flags_gives false false = (refl, lit< tt)
    flags_gives true false = (refl, lit< tt)
    flags_gives false true = (refl, lit< tt)
    flags_gives true true = (refl, lit< tt)

log_points_form-IsCodec : IsCodec LogPoints log_points_form
unfolding log_points_form flags_form
log_points_form-IsCodec = converted-IsCodec _ _ _ IsLogPoints (followed-IsCodec _ _ (number-IsCodec 8) (λ _. followed-IsCodec _ _ (number-IsCodec 8) (λ _. followed-IsCodec _ _ (number-IsCodec 8) (λ _. followed-IsCodec _ _ (number-IsCodec 8) (λ _. followed-IsCodec _ _ (number-IsCodec 8) (λ _. flags_form-IsCodec)))))) (record {
  takes = λ x l fits e.
      subst (λ (m : LogPoints). ((m.next_checkpoint, (m.next_kept, (m.archive, (m.kept, (m.checkpoint, (m.chain, m.began)))))) ≡ x) × IsLogPoints m)
      (same_Some (record { next_checkpoint = x.0; next_kept = x.1.0; archive = x.1.1.0; kept = x.1.1.1.0; checkpoint = x.1.1.1.1.0; chain = x.1.1.1.1.1.0; began = x.1.1.1.1.1.1 }) l e)
      (refl, record { next_checkpoint = fits.0; next_kept = fits.1.0; archive = fits.1.1.0; kept = fits.1.1.1.0; checkpoint = fits.1.1.1.1.0 });
  gives = λ l h. (refl, (h.next_checkpoint, (h.next_kept, (h.archive, (h.kept, (h.checkpoint, tt))))));
})

base_fields-IsCodec : IsCodec _ base_fields
base_fields-IsCodec = followed-IsCodec _ _ guid_form-IsCodec (λ _. number-IsCodec 8)

base_form-IsCodec : IsCodec (Option Base) base_form
unfolding base_form guid_form
base_form-IsCodec = record { takes = kind-takes base_bytes IsBase base_behind takes; gives = gives }
  where
    takes : (kind : ℕ) → TakesBehind base_bytes IsBase kind (base_behind kind)
    takes zero = bare-takes base_bytes IsBase 0 None refl tt
    takes (suc zero) = made-takes base_bytes IsBase 1 base_fields (λ x. Some (record { set = x.0; lsn = x.1 })) base_fields-IsCodec (λ x. refl) (λ x h. h)
    takes (suc (suc kind)) = λ bytes x rest are e. absurd cc

    gives : (base : Option Base) (rest : List ℕ) → IsBase base → by_kind base_behind (base_bytes base ++ rest) ≡ Some (base, rest)
    gives None rest is = kind-gives base_behind 0 rest (lit< tt)
    gives (Some base) rest is = made-gives base_behind 1 base_fields (λ x. Some (record { set = x.0; lsn = x.1 })) base_fields-IsCodec (lit< tt) (λ bytes. refl) (base.set, base.lsn) rest is

path-form : IsCodec (List ℕ) (string 1 100)
path-form = string-IsCodec 1 100 (lit< tt)

status_form-IsCodec : IsCodec Status status_form
unfolding status_form
status_form-IsCodec = record { takes = kind-takes status_bytes IsStatus status_behind takes; gives = gives }
  where
    takes : (kind : ℕ) → TakesBehind status_bytes IsStatus kind (status_behind kind)
    takes zero = bare-takes status_bytes IsStatus 0 status.Online refl tt
    takes (suc zero) = bare-takes status_bytes IsStatus 1 status.Down refl tt
    takes (suc (suc zero)) = made-takes status_bytes IsStatus 2 (string 1 100) status.Standby path-form (λ x. refl) (λ x h. h)
    takes (suc (suc (suc kind))) = λ bytes x rest are e. absurd cc

    gives : (s : Status) (rest : List ℕ) → IsStatus s → by_kind status_behind (status_bytes s ++ rest) ≡ Some (s, rest)
    gives status.Online rest is = kind-gives status_behind 0 rest (lit< tt)
    gives status.Down rest is = kind-gives status_behind 1 rest (lit< tt)
    gives (status.Standby path) rest is = made-gives status_behind 2 (string 1 100) status.Standby path-form (lit< tt) (λ bytes. refl) path rest is

page_fields-IsCodec : IsCodec _ page_fields
page_fields-IsCodec = followed-IsCodec _ _ (number-IsCodec 2) (λ _. number-IsCodec 4)

id_form-IsCodec : IsCodec UnitId id_form
unfolding id_form
id_form-IsCodec = record { takes = kind-takes id_bytes IsId id_behind takes; gives = gives }
  where
    takes : (kind : ℕ) → TakesBehind id_bytes IsId kind (id_behind kind)
    takes zero = made-takes id_bytes IsId 0 (number 2) File (number-IsCodec 2) (λ x. refl) (λ x h. h)
    takes (suc zero) = made-takes id_bytes IsId 1 page_fields (λ x. Page x.0 x.1) page_fields-IsCodec (λ x. refl) (λ x h. h)
    takes (suc (suc kind)) = λ bytes x rest are e. absurd cc

    gives : (id : UnitId) (rest : List ℕ) → IsId id → by_kind id_behind (id_bytes id ++ rest) ≡ Some (id, rest)
    gives (File file) rest is = made-gives id_behind 0 (number 2) File (number-IsCodec 2) (lit< tt) (λ bytes. refl) file rest is
    gives (Page file page) rest is = made-gives id_behind 1 page_fields (λ x. Page x.0 x.1) page_fields-IsCodec (lit< tt) (λ bytes. refl) (file, page) rest is

restoring_fields-IsCodec : IsCodec _ restoring_fields
restoring_fields-IsCodec = followed-IsCodec _ _ base_form-IsCodec (λ _. number-IsCodec 8)

state_form-IsCodec : IsCodec State state_form
unfolding state_form base_form
state_form-IsCodec = record { takes = kind-takes state_bytes IsState state_behind takes; gives = gives }
  where
    takes : (kind : ℕ) → TakesBehind state_bytes IsState kind (state_behind kind)
    takes zero = bare-takes state_bytes IsState 0 state.Online refl tt
    takes (suc zero) = bare-takes state_bytes IsState 1 state.Offline refl tt
    takes (suc (suc zero)) = bare-takes state_bytes IsState 2 state.Bad refl tt
    takes (suc (suc (suc zero))) = made-takes state_bytes IsState 3 restoring_fields (λ x. state.Restoring x.0 x.1) restoring_fields-IsCodec (λ x. refl) (λ x h. h)
    takes (suc (suc (suc (suc kind)))) = λ bytes x rest are e. absurd cc

    gives : (s : State) (rest : List ℕ) → IsState s → by_kind state_behind (state_bytes s ++ rest) ≡ Some (s, rest)
    gives state.Online rest is = kind-gives state_behind 0 rest (lit< tt)
    gives state.Offline rest is = kind-gives state_behind 1 rest (lit< tt)
    gives state.Bad rest is = kind-gives state_behind 2 rest (lit< tt)
    gives (state.Restoring base redo) rest is = made-gives state_behind 3 restoring_fields (λ x. state.Restoring x.0 x.1) restoring_fields-IsCodec (lit< tt) (λ bytes. refl) (base, redo) rest is

unit_form-IsCodec : IsCodec RestoreUnit unit_form
unfolding unit_form id_form state_form
unit_form-IsCodec = converted-IsCodec _ _ _ IsUnit (followed-IsCodec _ _ id_form-IsCodec (λ _. state_form-IsCodec)) (record {
  takes = λ x u fits e.
      subst (λ (v : RestoreUnit). ((v.id, v.state) ≡ x) × IsUnit v) (same_Some (record { id = x.0; state = x.1 }) u e) (refl, record { id = fits.0; state = fits.1 });
  gives = λ u h. (refl, (h.id, h.state));
})

pub points_form-IsCodec : IsCodec Points points_form
unfolding points_form log_points_form flags_form base_form status_form unit_form id_form state_form
points_form-IsCodec = converted-IsCodec _ _ _ IsPoints (followed-IsCodec _ _ log_points_form-IsCodec (λ _. followed-IsCodec _ _ base_form-IsCodec (λ _. followed-IsCodec _ _ status_form-IsCodec (λ _. counted-IsCodec 2 _ unit_form-IsCodec)))) (record {
  takes = λ x p fits e.
      subst (λ (q : Points). ((log_points_of q, (q.base, (q.status, q.units))) ≡ x) × IsPoints q)
      (same_Some (record { next_checkpoint = x.0.next_checkpoint; next_kept = x.0.next_kept; archive = x.0.archive; kept = x.0.kept; checkpoint = x.0.checkpoint; chain = x.0.chain; began = x.0.began; base = x.1.0; status = x.1.1.0; units = x.1.1.1 }) p e)
      (refl, record { log = fits.0; base = fits.1.0; status = fits.1.1.0; units = fits.1.1.1 });
  gives = λ p h. (refl, (h.log, (h.base, (h.status, h.units))));
})

-- ---- what is spelled is read, whatever follows

pub points_read : (points : Points) (rest : List ℕ) → IsPoints points → points_form.reading (points_bytes points ++ rest) ≡ Some (points, rest)
unfolding points_form log_points_form flags_form base_form status_form unit_form id_form state_form
points_read points rest is = points_form-IsCodec.gives points rest is

pub points_read_alone : (points : Points) → IsPoints points → points_form.reading (points_bytes points) ≡ Some (points, [])
points_read_alone points is = ap points_form.reading (sym (append-nil (points_bytes points))) ∙ points_read points [] is

-- and what is read is spelled
pub points_spelled : (bytes : List ℕ) (points : Points) (rest : List ℕ) → AreBytes bytes → points_form.reading bytes ≡ Some (points, rest) → (bytes ≡ points_bytes points ++ rest) × IsPoints points
unfolding points_form log_points_form flags_form base_form status_form unit_form id_form state_form
points_spelled bytes points rest are read = points_form-IsCodec.takes bytes points rest are read

-- ---- how long it is

joined : (a b : List ℕ) (m n : ℕ) → length a ≤ m → length b ≤ n → length (a ++ b) ≤ m + n
joined a b m n short also = omega (arith, length-append a b, short, also)

field : (n x : ℕ) → length (bytes_of n x) ≤ n
field n x = omega (arith, length-bytes_of n x)

log_points-short : (log : LogPoints) → length (log_points_bytes log) ≤ 41
log_points-short log = joined (bytes_of 8 log.next_checkpoint) _ 8 33 (field 8 log.next_checkpoint) (joined (bytes_of 8 log.next_kept) _ 8 25 (field 8 log.next_kept) (joined (bytes_of 8 log.archive) _ 8 17 (field 8 log.archive) (joined (bytes_of 8 log.kept) _ 8 9 (field 8 log.kept)
    (joined (bytes_of 8 log.checkpoint) (bytes_of 1 (flags_number log.chain log.began)) 8 1 (field 8 log.checkpoint) (field 1 (flags_number log.chain log.began))))))

base-short : (base : Option Base) → length (base_bytes base) ≤ 25
base-short None = omega (arith, field 1 0)
base-short (Some base) = joined (bytes_of 1 1) _ 1 24 (field 1 1) (joined (guid_bytes base.set) (bytes_of 8 base.lsn) 16 8 (field 16 (guid_number base.set)) (field 8 base.lsn))

status-short : (s : Status) → IsStatus s → length (status_bytes s) ≤ 103
status-short status.Online is = omega (arith, field 1 0)
status-short status.Down is = omega (arith, field 1 1)
status-short (status.Standby path) is = joined (bytes_of 1 2) _ 1 102 (field 1 2) (joined (bytes_of 2 (length path)) path 2 100 (field 2 (length path)) is.most_bytes)

id-short : (id : UnitId) → length (id_bytes id) ≤ 7
id-short (File file) = omega (arith, joined (bytes_of 1 0) (bytes_of 2 file) 1 2 (field 1 0) (field 2 file))
id-short (Page file page) = joined (bytes_of 1 1) _ 1 6 (field 1 1) (joined (bytes_of 2 file) (bytes_of 4 page) 2 4 (field 2 file) (field 4 page))

state-short : (s : State) → length (state_bytes s) ≤ 34
state-short state.Online = omega (arith, field 1 0)
state-short state.Offline = omega (arith, field 1 1)
state-short state.Bad = omega (arith, field 1 2)
state-short (state.Restoring base redo) = joined (bytes_of 1 3) _ 1 33 (field 1 3) (joined (base_bytes base) (bytes_of 8 redo) 25 8 (base-short base) (field 8 redo))

unit-short : (u : RestoreUnit) → length (unit_bytes u) ≤ 41
unit-short u = joined (id_bytes u.id) (state_bytes u.state) 7 34 (id-short u.id) (state-short u.state)

units-short : (units : List RestoreUnit) → length (flat_map unit_bytes units) ≤ 41 * length units
units-short [] = omega arith
units-short (u ∷ units) = omega (arith, length-append (unit_bytes u) (flat_map unit_bytes units), unit-short u, units-short units)

pub points_short : (points : Points) → IsPoints points → KeepsPoints points → length (points_bytes points) ≤ 10667
points_short points is keeps =
    joined (log_points_bytes (log_points_of points)) _ 41 10626 (log_points-short (log_points_of points)) (joined (base_bytes points.base) _ 25 10601 (base-short points.base)
    (joined (status_bytes points.status) (units_bytes points.units) 103 10498 (status-short points.status is.status)
    (joined (bytes_of 2 (length points.units)) (flat_map unit_bytes points.units) 2 10496 (field 2 (length points.units)) (omega (arith, units-short points.units, keeps.units)))))

-- the note of a store has room for it
pub points_fit : (points : Points) → IsPoints points → KeepsPoints points → length (points_bytes points) ≤ 12288
points_fit points is keeps = omega (arith, points_short points is keeps)
