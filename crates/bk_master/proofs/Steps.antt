-- What making an instance and putting its record did to the device.
use Rattle.std.proofs.Common.{◌≡◌, ◌⊎◌, ℕ, Bool, true, false, List, length, Option, Some, None, refl, inl, inr, sym, ap, subst, ◌∙◌, arith, get_or}
use Rattle.std.specs.Prelude.{is_some, option_map}
use Rattle.bk_control.specs.Control.{IsControl, control_value, control_durable, control_kept}
use Rattle.bk_control.specs.Control.{Kept as KeptControl}
use Rattle.bk_control.specs.Slots.{control_of}
use Rattle.bk_device.specs.Calls.{ChangesNothing}
use Rattle.bk_device.specs.Compose.{effect_then, effect_widen, effect_none, effect_of_nothing, keeps_by_effect, keeps_by_nothing, durable_kept}
use Rattle.bk_device.specs.Disk.{Files, Disk, IsDurable}
use Rattle.bk_device.specs.Effects.{Effect, IsName}
use Rattle.bk_master.specs.declared.record.Record.{Record}
use Rattle.bk_master.specs.Spelling.{read_record}
use Rattle.bk_master.specs.Master.{made_file, control_file, IsOwn, IsNotMade, IsMade, record_of, HoldsRecord, IsMaster, IsNoInstance, IsBroken, AreDurable, Kept, Makes, fresh}
use Rattle.bk_master.specs.Laws.{own_made, own_control, record_is, record_none, record_same, master_left}

-- ---- the two names differ

-- the letter at place 7
abbrev letter : List ℕ → ℕ
letter name = get_or name 7 0

pub control_not_made : control_file ≡ made_file → ⊥
control_not_made same = let e : 99 ≡ 109 = ap letter same in absurd (omega (arith, e))

-- ---- making an instance

-- nothing was done yet
pub make_none : (number : ℕ) (a : Disk) → IsNotMade a.files → IsDurable a made_file → Effect IsOwn (Makes number) a a
make_none number a none durable = effect_none a (λ image mine. inl (durable (image made_file) (mine made_file own_made) ∙ none))

-- a control was made
pub make_first : (number : ℕ) (a b : Disk) → IsNotMade a.files → IsDurable a made_file → Effect (IsName control_file) (λ _. Unit {0}) a b → Effect IsOwn (Makes number) a b
make_first number a b none durable first = effect_widen (λ n at. inr at) (λ image here left. inl (durable (image made_file) (left made_file (λ same. control_not_made (sym same)) own_made) ∙ none)) first

-- what stands once it is
pub record Ready (disk : Disk) (number : ℕ) (control : KeptControl) : Type 0 where
  pub control_name : control.name ≡ control_file
  pub controls : IsControl disk control
  pub reads : read_record control.content ≡ Some (fresh number)

ready_record : (number : ℕ) (c : Disk) (control : KeptControl) (files : Files) → Ready c number control → files control_file ≡ c.files control_file → record_of files ≡ Some (fresh number)
ready_record number c control files is same =
    let held : control_of (c.files control_file) ≡ Some control.content = ap (λ (name : List ℕ). control_of (c.files name)) (sym is.control_name) ∙ control_value is.controls in
    record_is files control.content (fresh number) (ap control_of same ∙ held) is.reads

ready_durable : (number : ℕ) (c : Disk) (control : KeptControl) → Ready c number control → IsDurable c control_file
ready_durable number c control is = let Durable : List ℕ → Type 0 = λ n. IsDurable c n in subst Durable is.control_name (control_durable is.controls)

-- then it was said that it is made
pub make_second : (number : ℕ) (a b c : Disk) (control : KeptControl) → IsNotMade a.files → IsDurable a made_file → Effect (IsName control_file) (λ _. Unit {0}) a b
    → Ready b number control → Effect (IsName made_file) (λ image. b.may made_file (image made_file) ⊎ IsMade image) b c → Effect IsOwn (Makes number) a c
make_second number a b c control none durable first is second =
    let none_yet : IsNotMade b.files = first.others made_file (λ same. control_not_made (sym same)) ∙ none in
    let durable_yet : IsDurable b made_file = durable_kept made_file refl (keeps_by_effect (λ n at same. control_not_made (sym same ∙ at)) first) durable in
    effect_then (make_first number a b none durable first)
    (effect_widen (λ name at. inl at) (λ image here left. elim here [
      | inl before ↦ inl (durable_yet (image made_file) before ∙ none_yet)
      | inr made ↦ inr (record {
        made = made;
        is = ready_record number b control image is (ready_durable number b control is (image control_file) (left control_file control_not_made own_control));
      })
    ]) second)

-- and they stand
pub made_master : {P : Files → Type 0} (number : ℕ) (failed : Bool) (b c : Disk) (control : KeptControl) → Ready b number control → Effect (IsName made_file) P b c → IsMade c.files → IsDurable c made_file
    → IsMaster c (record { control = control; «record» = fresh number; failed = failed })
made_master number failed b c control is second made durable = record {
  control_name = is.control_name;
  controls = control_kept (keeps_by_effect (λ name at same. control_not_made (sym is.control_name ∙ (sym at ∙ same))) second) is.controls;
  made = made;
  made_durable = durable;
  reads = is.reads;
}

-- ---- putting the record

-- the record was put, or not
pub put_crash : (kept : Kept) (next : Record) (bytes : List ℕ) (a b : Disk) → IsMaster a kept → read_record bytes ≡ Some next
    → Effect (IsName kept.control.name) (λ image. (control_of (image kept.control.name) ≡ Some kept.control.content) ⊎ (control_of (image kept.control.name) ≡ Some bytes)) a b
    → Effect IsOwn (λ image. HoldsRecord image kept.record ⊎ HoldsRecord image next) a b
put_crash kept next bytes a b is reads effect =
    let At : List ℕ → Type 0 = λ n. Effect (IsName n) (λ image. (control_of (image n) ≡ Some kept.control.content) ⊎ (control_of (image n) ≡ Some bytes)) a b in
    let stays : (image : Files) (r : Record) → record_of image ≡ Some r → ((name : List ℕ) → (IsName control_file name → ⊥) → IsOwn name → a.may name (image name)) → HoldsRecord image r = λ image r held left. record {
      made = λ none. is.made (sym (is.made_durable (image made_file) (left made_file (λ same. control_not_made (sym same)) own_made)) ∙ none);
      is = held;
    } in
    effect_widen (λ name at. inr at) (λ image here left. elim here [
      | inl old ↦ inl (stays image kept.record (record_is image kept.control.content kept.record old is.reads) left)
      | inr new ↦ inr (stays image next (record_is image bytes next new reads) left)
    ]) (subst At is.control_name effect)

pub put_none : (kept : Kept) (next : Record) (a : Disk) → IsMaster a kept → Effect IsOwn (λ image. HoldsRecord image kept.record ⊎ HoldsRecord image next) a a
put_none kept next a is = effect_none a (λ image mine. inl (master_left image is mine))

-- and the files stand with the record
pub put_master : {P : Files → Type 0} (kept : Kept) (next : Record) (failed : Bool) (bytes : List ℕ) (a b : Disk) (control : KeptControl) → IsMaster a kept → control.name ≡ kept.control.name → control.content ≡ bytes
    → read_record bytes ≡ Some next → IsControl b control → Effect (IsName kept.control.name) P a b → IsMaster b (record { control = control; «record» = next; failed = failed })
put_master kept next failed bytes a b control is name content reads controls effect =
    let made_kept = keeps_by_effect {names = IsName made_file} (λ n at same. control_not_made (sym (sym at ∙ same ∙ is.control_name))) effect in
    record {
      control_name = name ∙ is.control_name;
      controls = controls;
      made = λ none. is.made (sym (made_kept.same made_file refl) ∙ none);
      made_durable = durable_kept made_file refl made_kept is.made_durable;
      reads = ap read_record content ∙ reads;
    }

-- ---- opening

-- a file whose length was told is there, or it isn't
pub some_made : (files : Files) (len : Option ℕ) → len ≡ option_map length (files made_file) → is_some len ≡ true → IsMade files
some_made files len told some none =
    let nothing : len ≡ None = told ∙ ap (option_map length) none in
    let both : false ≡ true = sym (ap is_some nothing) ∙ some in
    cc

none_there : (file : Option (List ℕ)) → is_some (option_map length file) ≡ false → file ≡ None
none_there None e = refl
none_there (Some content) e = absurd cc

pub none_made : (files : Files) (len : Option ℕ) → len ≡ option_map length (files made_file) → is_some len ≡ false → IsNotMade files
none_made files len told none = none_there (files made_file) (ap is_some (sym told) ∙ none)

-- the files were opened: a read shows the instance
pub opened_files : (a : Disk) (content : List ℕ) (r : Record) → IsMade a.files → control_of (a.files control_file) ≡ Some content → read_record content ≡ Some r → HoldsRecord a.files r
opened_files a content r made held reads = record { made = made; is = record_is a.files content r held reads }

-- and they stand where nothing was pending
pub opened_master : (failed : Bool) (a b : Disk) (control : KeptControl) (r : Record) → IsMade a.files → AreDurable a → ChangesNothing a b → control.name ≡ control_file → read_record control.content ≡ Some r
    → (IsDurable a control_file → IsControl b control) → IsMaster b (record { control = control; «record» = r; failed = failed })
opened_master failed a b control r made durable call control_name reads controls = record {
  control_name = control_name;
  controls = controls (durable control_file own_control);
  made = λ none. made (sym (call.files made_file) ∙ none);
  made_durable = durable_kept {names = IsName made_file} made_file refl (keeps_by_nothing call) (durable made_file own_made);
  reads = reads;
}

-- the control holds no record
pub broken_record : (a : Disk) (content : List ℕ) → IsMade a.files → control_of (a.files control_file) ≡ Some content → read_record content ≡ None → IsBroken a.files
broken_record a content made held none = record {
  made = made;
  control = λ nothing. absurd cc;
  none = record_none a.files content held none;
}

-- ---- opening or making

pub made_moved : {a b : Disk} → ChangesNothing a b → IsMade a.files → IsMade b.files
made_moved call made none = made (sym (call.files made_file) ∙ none)

pub no_instance_moved : {a b : Disk} → ChangesNothing a b → IsNoInstance a.files → IsNoInstance b.files
no_instance_moved call is = (made_moved call is.0, ap control_of (call.files control_file) ∙ is.1)

pub broken_moved : {a b : Disk} → ChangesNothing a b → IsBroken b.files → IsBroken a.files
broken_moved {a = a} {b = b} call is = record {
  made = λ none. is.made (call.files made_file ∙ none);
  control = λ none. is.control (ap control_of (call.files control_file) ∙ none);
  none = sym (record_same a.files b.files (call.files control_file)) ∙ is.none;
}

-- it was seen that the instance isn't made, and then it was made
pub load_crash : (number : ℕ) (a b c : Disk) → ChangesNothing a b → IsNotMade a.files → IsDurable a made_file → (IsDurable b made_file → Effect IsOwn (Makes number) b c) → Effect IsOwn (Makes number) a c
load_crash number a b c call none durable next =
    effect_then (effect_of_nothing (λ image mine. inl (durable (image made_file) (mine made_file own_made) ∙ none)) call)
    (next (durable_kept {names = IsName made_file} made_file refl (keeps_by_nothing call) durable))
