-- What the layers above may take of an instance's own files.
use Rattle.std.proofs.Common.{◌≡◌, ℕ, List, take, Option, Some, None, refl, inl, inr, sym, ap, subst, ◌∙◌}
use Rattle.std.specs.Prelude.{codes}
use Rattle.bk_bytes.specs.Codec.{◌>>=◌}
use Rattle.bk_device.specs.Compose.{durable_kept}
use Rattle.bk_device.specs.Disk.{Files, Disk, IsDurable}
use Rattle.bk_device.specs.Effects.{IsName, KeepsFiles, MayLeaveOwn}
use Rattle.bk_control.specs.Control.{control_value, control_durable, control_kept}
use Rattle.bk_control.specs.Slots.{control_of}
use Rattle.bk_master.specs.declared.record.Record.{Record}
use Rattle.bk_master.specs.Spelling.{read_record}
use Rattle.bk_master.specs.Master.{made_file, control_file, IsOwn, record_of, HoldsRecord, IsMaster, IsNoInstance, IsBroken, AreDurable, Kept}

-- the two names

pub own_made : IsOwn made_file
own_made = inl refl

pub own_control : IsOwn control_file
own_control = inr refl

-- each begins with sqlbak and a dot
pub own_front : (name : List ℕ) → IsOwn name → take 7 name ≡ codes "sqlbak."
own_front name own = elim own [ inl made ↦ ap (take 7) made | inr control ↦ ap (take 7) control ]

-- what a read of the files says

-- the record is the one that the control's content spells
pub record_is : (files : Files) (content : List ℕ) (r : Record) → control_of (files control_file) ≡ Some content → read_record content ≡ Some r → record_of files ≡ Some r
unfolding record_of
record_is files content r held reads = ap (λ (o : Option (List ℕ)). o >>= read_record) held ∙ reads

-- where the control's content spells no record there is none
pub record_none : (files : Files) (content : List ℕ) → control_of (files control_file) ≡ Some content → read_record content ≡ None → record_of files ≡ None
unfolding record_of
record_none files content held reads = ap (λ (o : Option (List ℕ)). o >>= read_record) held ∙ reads

-- nor where there is no control
pub control_none : (files : Files) → control_of (files control_file) ≡ None → record_of files ≡ None
unfolding record_of
control_none files none = ap (λ (o : Option (List ℕ)). o >>= read_record) none

-- the two files alone count
pub record_same : (f g : Files) → g control_file ≡ f control_file → record_of g ≡ record_of f
unfolding record_of
record_same f g same = ap (λ (file : Option (List ℕ)). control_of file >>= read_record) same

pub holds_same : {f g : Files} {r : Record} → ((name : List ℕ) → IsOwn name → g name ≡ f name) → HoldsRecord f r → HoldsRecord g r
holds_same {f = f} {g = g} same is = record {
  made = λ none. is.made (sym (same made_file own_made) ∙ none);
  is = record_same f g (same control_file own_control) ∙ is.is;
}

-- files hold one record
pub one_record : {files : Files} {r s : Record} → HoldsRecord files r → HoldsRecord files s → r ≡ s
one_record {files} {r} {s} first second = let same : Some r ≡ Some s = sym first.is ∙ second.is in cc

-- a made instance with its record is an instance and isn't broken

pub record_is_instance : {files : Files} {r : Record} → HoldsRecord files r → IsNoInstance files → ⊥
record_is_instance {files = files} is no_instance =
    let none : record_of files ≡ None = control_none files no_instance.1 in
    let some = is.is in
    absurd cc

pub record_is_whole : {files : Files} {r : Record} → HoldsRecord files r → IsBroken files → ⊥
record_is_whole {files = files} is broken = let none = broken.none in let some = is.is in absurd cc

-- what stands on a disk gives

-- the files hold the record
pub master_files : {disk : Disk} {kept : Kept} → IsMaster disk kept → HoldsRecord disk.files kept.record
master_files {disk = disk} {kept = kept} is =
    let held : control_of (disk.files control_file) ≡ Some kept.control.content = ap (λ (name : List ℕ). control_of (disk.files name)) (sym is.control_name) ∙ control_value is.controls in
    record { made = is.made; is = record_is disk.files kept.control.content kept.record held is.reads }

-- nothing is pending in them
pub master_durable : {disk : Disk} {kept : Kept} → IsMaster disk kept → AreDurable disk
master_durable {disk = disk} {kept = kept} is name own =
    let Durable : List ℕ → Type 0 = λ n. IsDurable disk n in
    elim own [ inl made ↦ subst Durable (sym made) is.made_durable | inr control ↦ subst Durable (is.control_name ∙ sym control) (control_durable is.controls) ]

-- each crash leaves them
pub master_left : {disk : Disk} {kept : Kept} (image : Files) → IsMaster disk kept → MayLeaveOwn IsOwn disk image → HoldsRecord image kept.record
master_left image is mine = holds_same (λ name own. master_durable is name own (image name) (mine name own)) (master_files is)

-- what is done under other names leaves them
pub master_kept : {a b : Disk} {kept : Kept} → KeepsFiles IsOwn a b → IsMaster a kept → IsMaster b kept
master_kept {a = a} {b = b} {kept = kept} keeps is =
    let control_at : (name : List ℕ) → IsName kept.control.name name → IsOwn name = λ name at. inr (at ∙ is.control_name) in
    record {
      control_name = is.control_name;
      controls = control_kept (record { same = λ name at. keeps.same name (control_at name at); nothing_more = λ name at. keeps.nothing_more name (control_at name at) }) is.controls;
      made = λ none. is.made (sym (keeps.same made_file own_made) ∙ none);
      made_durable = durable_kept made_file own_made keeps is.made_durable;
      reads = is.reads;
    }
