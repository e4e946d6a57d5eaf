-- What is read of a note.
use Rattle.std.proofs.Common.{◌≡◌, ℕ, Bool, true, false, List, Option, Some, None, sym, ◌∙◌, ap, subst, arith}
use Rattle.std.specs.Prelude.{slice_get}
use Rattle.std.proofs.lemmas.Option.{same_Some}
use Rattle.bk_device.specs.Disk.{Disk, Files}
use Rattle.bk_known.specs.declared.known.Known.{Known}
use Rattle.bk_known.specs.Known.{Tells, known_form}
use Rattle.bk_known.specs.KnownLaws.{known_read}
use Rattle.bk_master.specs.declared.record.Entry.{Entry}
use Rattle.bk_reading.specs.Reading.{Refuses}
use Rattle.bk_reading.specs.declared.unread.Unread.{Unread}
use Rattle.bk_reading.specs.declared.unread.Unread.TheVariants as unread
use Rattle.bk_store.specs.Store.{Kept as KeptStore}
use Rattle.bk_store.specs.Told.{IsNoted, Told}
use Rattle.bk_stores.specs.ListLaws.{got, got-inside, got-one}
use Rattle.bk_stores.specs.Parking.{IsParked, Spells}
use Rattle.bk_stores.specs.Stores.{AreStores, HoldsBy, HoldsNote, IsSlot, Kept}

-- ---- bytes

-- what is spelled is read
spelled-tells : (bytes : List ℕ) (known : Known) (note : List ℕ) → Spells bytes known note → Tells bytes known note
spelled-tells bytes known note is = subst (λ (bs : List ℕ). Tells bs known note) (sym is.are) (known_read known note is.spelled)

-- and nothing else is
pub spelled-read : (bytes : List ℕ) (known read : Known) (note rest : List ℕ) → Spells bytes known note → Tells bytes read rest → (read ≡ known) × (rest ≡ note)
spelled-read bytes known read note rest is tells =
    let same : ◌≡◌ {A = Known × List ℕ} (read, rest) (known, note) = same_Some (read, rest) (known, note) (sym tells ∙ spelled-tells bytes known note is) in
    (ap (λ (p : Known × List ℕ). p.0) same, ap (λ (p : Known × List ℕ). p.1) same)

-- it isn't refused
pub spelled-refused : (bytes : List ℕ) (e : Unread) (known : Known) (note : List ℕ) → Refuses e (known_form.reading bytes) → e ≡ unread.Unspelled → Spells bytes known note → ⊥
spelled-refused bytes unread.Unspelled known note refused same is = let both : ◌≡◌ {A = Option (Known × List ℕ)} None (Some (known, note)) = sym refused ∙ spelled-tells bytes known note is in absurd cc
spelled-refused bytes unread.NoMemory known note refused same is = absurd cc

-- ---- databases

-- the note of a database of which it alone tells spells that
pub holds-spells : (n : ℕ) (told : Told) (image : Files) (bytes : List ℕ) → (is : HoldsNote n told image) → bytes ≡ is.log.note → Spells bytes is.known told.note
holds-spells n told image bytes is same = record { spelled = is.noted.spelled; are = same ∙ is.same_note }

-- and what is read there tells of it
pub read-parked : (n : ℕ) (told : Told) (image : Files) (known : Known) (note : List ℕ) → (is : HoldsNote n told image) → known ≡ is.known → note ≡ told.note → IsParked known note told
read-parked n told image known note is one two =
    record { noted = subst (λ (k : Known). IsNoted k told) (sym one) is.noted; same = sym two; from = ap (λ (k : Known). k.as_of.from) one ∙ is.from }

-- the files of one that isn't stored hold its note
slot-note : (a : Disk) (e : Entry) (slot : Option KeptStore) (told : Told) → e.is_stored ≡ false → IsSlot a e slot told → HoldsNote e.store told a.files
slot-note a e None told parked is = subst (λ (b : Bool). HoldsBy b e.store told a.files) parked is.holds
slot-note a e (Some s) told parked is = absurd (let both : true ≡ false = sym is.stored ∙ parked in cc)

pub parked-note : {a : Disk} (s : Kept) (tolds : List Told) (at n : ℕ) (e f : Entry) (told : Told) → AreStores a s tolds → slice_get s.master.record.databases at ≡ Some e → e.is_stored ≡ false → slice_get s.master.record.databases at ≡ Some f → f.store ≡ n → slice_get tolds at ≡ Some told
    → HoldsNote n told a.files
parked-note {a} s tolds at n e f told is there parked also number told_is =
    let inside = got-inside tolds at told told_is in
    let slot = got s.slots at (omega (arith, inside, is.standing.count)) in
    let one : e ≡ f = got-one s.master.record.databases at e f there also in
    let store : e.store ≡ n = ap (λ (x : Entry). x.store) one ∙ number in
    subst (λ (m : ℕ). HoldsNote m told a.files) store (slot-note a e slot.0 told parked (is.standing.stand at e slot.0 told (there, told_is) slot.1))

-- each place of an entry has a database
pub told-at : {a : Disk} (s : Kept) (tolds : List Told) (at : ℕ) (e : Entry) → AreStores a s tolds → slice_get s.master.record.databases at ≡ Some e → (told : Told) × (slice_get tolds at ≡ Some told)
told-at s tolds at e is there = let inside = got-inside s.master.record.databases at e there in got tolds at (omega (arith, inside, is.standing.entries.count))
