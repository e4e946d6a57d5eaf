-- What the steps of sealing a blob did to the device.
use Rattle.std.proofs.Common.{◌≡◌, ◌≤◌, ◌<◌, ◌^◌, ◌⊎◌, ℕ, ◌+◌, List, [], ◌∷◌, ◌++◌, length, max, take, get_or, Option, Some, None, Bool, true, false, refl, inl, inr, sym, ◌∙◌, ap, subst, arith, lit<}
use Rattle.std.specs.Prelude.{slice_index, option_map, IsSomeAnd, Result, Ok, Err, OnOk}
use Rattle.std.proofs.lemmas.List.{take-take}
use Rattle.std.proofs.lemmas.Grind.{common_steps}
use Rattle.bk_device.specs.Calls.{contents, read_at, written, LeavesWrite, LeavesCut, LeavesSame, CallsOn, ChangesNothing}
use Rattle.bk_device.specs.Compose.{effect_then, effect_weaken, effect_none, effect_of_call, effect_of_nothing}
use Rattle.bk_device.specs.Counts.{HasCause}
use Rattle.bk_device.specs.Disk.{Files, Disk, IsDurable}
use Rattle.bk_device.specs.Effects.{Effect, IsName}
use Rattle.bk_device.specs.Laws.{torn-contents}
use Rattle.bk_device.specs.Torn.{torn-written, length-torn, written-length}
use Rattle.bk_lemmas.specs.Tests.{equal_or_not}
use Rattle.bk_gate.specs.Blobs.{magic, sealed, blobs_in}
use Rattle.bk_gate.specs.Gate.{Stands, Quiet, Loose, IsAt, IsPrepared}
use Rattle.bk_gate.specs.Laws.{quiet_front}
use Rattle.bk_gate.specs.BlobLaws.{front_stands, behind, mending, mended_sealed, longer, same_front_byte, byte_written, opened_sealed, opened_stands, shut_sealed, short_blob, ended_spans, no_blobs, erasing, erased}

-- what holds whatever a call answers, and what follows from two facts of one that succeeded
pub on_ok_any : {T E P : Type 0} (r : Result T E) → P → OnOk r P
on_ok_any (Ok x) p = p
on_ok_any (Err e) p = tt

pub on_ok_both : {T E P Q R : Type 0} (r : Result T E) → (P → Q → R) → OnOk r P → OnOk r Q → OnOk r R
on_ok_both (Ok x) f p q = f p q
on_ok_both (Err e) f p q = tt

-- one call, and what it failed by
pub only_cause : {D : Type 0} {disk tell : D → ℕ} {a b : D} {failed call : Type 0} → HasCause disk tell a b call → (failed → call) → HasCause disk tell a b failed
only_cause cause which = record { rose = λ is. cause.rose (which is); never_falls = cause.never_falls; tell_faults = cause.tell_faults }

-- of some calls the last one alone can have failed
pub last_cause : {D : Type 0} {disk tell : D → ℕ} {a b c : D} {first failed last : Type 0} → HasCause disk tell a b first → HasCause disk tell b c last → (failed → last) → HasCause disk tell a c failed
last_cause {disk = disk} {a = a} {b = b} {c = c} before after which = record {
  rose = λ is below. let more : disk b < disk c = after.rose (which is) below in omega (arith, before.never_falls, more);
  never_falls = omega (arith, before.never_falls, after.never_falls);
  tell_faults = after.tell_faults ∙ before.tell_faults;
}

-- a crash leaves the blobs that there are
abbrev pub Keeps : List ℕ → Disk → Files → Type 0
Keeps name a image = sealed (image name) ≡ sealed (a.files name)

pub quiet_none : (spans : List (ℕ × ℕ)) (end : ℕ) (name : List ℕ) (a : Disk) → Quiet spans end name a → Effect (IsName name) (Keeps name a) a a
quiet_none spans end name a quiet = effect_none a (λ image mine. quiet_front spans end name a (image name) quiet (quiet.left (image name) (mine name refl)))

-- a disk whose images agree with the old file
pub quiet_by : (spans : List (ℕ × ℕ)) (end : ℕ) (name : List ℕ) (a b : Disk) → Quiet spans end name a → take (end + 1) (contents (b.files name)) ≡ take (end + 1) (contents (a.files name)) → ((content : Option (List ℕ)) → b.may name content → take (end + 1) (contents content) ≡ take (end + 1) (contents (a.files name))) → Quiet spans end name b
quiet_by spans end name a b quiet front images = record {
  stands = front_stands spans end (contents (a.files name)) (contents (b.files name)) quiet.stands quiet.inside quiet.closed front;
  inside = longer end (contents (a.files name)) (contents (b.files name)) quiet.inside front;
  closed = λ one. quiet.closed (sym (same_front_byte end (contents (a.files name)) (contents (b.files name)) front) ∙ one);
  left = λ content may. images content may ∙ sym front;
}

-- a write behind it

append_front : (end at n : ℕ) (name : List ℕ) (spans : List (ℕ × ℕ)) (a : Disk) (before after : Option (List ℕ)) → Quiet spans end name a → end < at → a.may name before → LeavesWrite at n before after → take (end + 1) (contents after) ≡ take (end + 1) (contents (a.files name))
append_front end at n name spans a before after quiet past may leaves =
    let was = quiet.left before may in
    behind end at n (contents before) (contents after) (longer end (contents (a.files name)) (contents before) quiet.inside was) (omega (arith, past)) (torn-contents at n before after leaves) ∙ was

pub append_crash : (spans : List (ℕ × ℕ)) (end at n : ℕ) (name : List ℕ) (a b : Disk) → Quiet spans end name a → end < at → CallsOn name (LeavesWrite at n) a b → Effect (IsName name) (Keeps name a) a b
append_crash spans end at n name a b quiet past call =
    effect_of_call (λ image before may leaves. quiet_front spans end name a (image name) quiet (append_front end at n name spans a before (image name) quiet past may leaves)) call

-- a write that was refused
pub refused_crash : (spans : List (ℕ × ℕ)) (end : ℕ) (name : List ℕ) (a b : Disk) → Quiet spans end name a → ChangesNothing a b → Effect (IsName name) (Keeps name a) a b
refused_crash spans end name a b quiet call = effect_of_nothing (λ image mine. quiet_front spans end name a (image name) quiet (quiet.left (image name) (mine name refl))) call

pub append_quiet : (spans : List (ℕ × ℕ)) (end at : ℕ) (name bytes : List ℕ) (a b : Disk) → Quiet spans end name a → end < at → CallsOn name (LeavesWrite at (length bytes)) a b → b.files name ≡ Some (written (contents (a.files name)) at bytes) → Quiet spans end name b
append_quiet spans end at name bytes a b quiet past call wrote =
    let file : contents (b.files name) ≡ written (contents (a.files name)) at bytes = ap contents wrote in
    let front : take (end + 1) (contents (b.files name)) ≡ take (end + 1) (contents (a.files name)) =
    ap (take (end + 1)) file ∙ behind end at (length bytes) (contents (a.files name)) (written (contents (a.files name)) at bytes) quiet.inside (omega (arith, past)) (torn-written at (contents (a.files name)) bytes) in
    quiet_by spans end name a b quiet front (λ content may. let one = call.left content may in append_front end at (length bytes) name spans a one.0 content quiet past one.1 one.2)

pub append_sealed : (spans : List (ℕ × ℕ)) (end at : ℕ) (name bytes : List ℕ) (a b : Disk) → Quiet spans end name a → end < at → b.files name ≡ Some (written (contents (a.files name)) at bytes) → sealed (b.files name) ≡ sealed (a.files name)
append_sealed spans end at name bytes a b quiet past wrote =
    quiet_front spans end name a (b.files name) quiet
    (ap (λ (f : Option (List ℕ)). take (end + 1) (contents f)) wrote ∙ behind end at (length bytes) (contents (a.files name)) (written (contents (a.files name)) at bytes) quiet.inside (omega (arith, past)) (torn-written at (contents (a.files name)) bytes))

-- closing a loose gate byte

pub close_crash : (spans : List (ℕ × ℕ)) (end : ℕ) (name : List ℕ) (a b : Disk) → Loose spans end name a → Effect (IsName name) (λ image. LeavesWrite end 1 (a.files name) (image name)) a b → Effect (IsName name) (Keeps name a) a b
close_crash spans end name a b loose effect =
    effect_weaken (λ image leaves. mended_sealed spans end (contents (a.files name)) (contents (image name)) loose.stands loose.why (torn-contents end 1 (a.files name) (image name) leaves)) effect

pub close_sealed : (spans : List (ℕ × ℕ)) (end : ℕ) (name : List ℕ) (a b : Disk) → Loose spans end name a → b.files name ≡ Some (written (contents (a.files name)) end (0 ∷ [])) → sealed (b.files name) ≡ sealed (a.files name)
close_sealed spans end name a b loose wrote =
    let file = ap contents wrote in
    ap blobs_in file ∙ mended_sealed spans end (contents (a.files name)) (written (contents (a.files name)) end (0 ∷ [])) loose.stands loose.why (torn-written end (contents (a.files name)) (0 ∷ []))

pub close_quiet : (spans : List (ℕ × ℕ)) (end : ℕ) (name : List ℕ) (a b : Disk) → Loose spans end name a → b.files name ≡ Some (written (contents (a.files name)) end (0 ∷ [])) → IsDurable b name → Quiet spans end name b
close_quiet spans end name a b loose wrote durable =
    let file : contents (b.files name) ≡ written (contents (a.files name)) end (0 ∷ []) = ap contents wrote in
    let Of : List ℕ → Type 0 = Stands spans end in
    let byte : slice_index (contents (b.files name)) end ≡ 0 = ap (λ (f : List ℕ). get_or f end 0) file ∙ byte_written end 0 (contents (a.files name)) loose.stands.within in
    let size : length (contents (b.files name)) ≡ max (length (contents (a.files name))) (end + 1) = ap length file ∙ written-length end (contents (a.files name)) (0 ∷ []) loose.stands.within in
    record {
      stands = subst Of (sym file) (mending spans end (contents (a.files name)) (written (contents (a.files name)) end (0 ∷ [])) loose.stands loose.why (torn-written end (contents (a.files name)) (0 ∷ [])));
      inside = omega (arith, size);
      closed = λ one. absurd (omega (arith, byte, one));
      left = λ content may. ap (λ (f : Option (List ℕ)). take (end + 1) (contents f)) (durable content may);
    }

-- a write behind the end, or one that is refused
pub append_any : (spans : List (ℕ × ℕ)) (end at n : ℕ) (name : List ℕ) (a b : Disk) → Quiet spans end name a → (at < 2 ^ 62 → end < at) → CallsOn name (LeavesWrite at n) a b → (2 ^ 62 ≤ at + n → ChangesNothing a b) → Effect (IsName name) (Keeps name a) a b
append_any spans end at n name a b quiet past call refused =
    elim (order at) [
      | inl small ↦ append_crash spans end at n name a b quiet (past small) call
      | inr great ↦ refused_crash spans end name a b quiet (refused (omega (arith, great)))
    ]
  where
    order : (at : ℕ) → (at < 2 ^ 62) ⊎ (2 ^ 62 ≤ at)
    order at = grind (arith, common_steps)

-- syncing, with the gate byte closed

pub settle_crash : (spans : List (ℕ × ℕ)) (end : ℕ) (name : List ℕ) (a b : Disk) → Quiet spans end name a → CallsOn name LeavesSame a b → Effect (IsName name) (Keeps name a) a b
settle_crash spans end name a b quiet call =
    effect_of_call (λ image before may same. ap sealed same ∙ quiet_front spans end name a before quiet (quiet.left before may)) call

pub settle_quiet : (spans : List (ℕ × ℕ)) (end : ℕ) (name : List ℕ) (a b : Disk) → Quiet spans end name a → IsDurable b name → b.files name ≡ a.files name → Quiet spans end name b
settle_quiet spans end name a b quiet durable same =
    let front : take (end + 1) (contents (b.files name)) ≡ take (end + 1) (contents (a.files name)) = ap (λ (f : Option (List ℕ)). take (end + 1) (contents f)) same in
    quiet_by spans end name a b quiet front (λ content may. ap (λ (f : Option (List ℕ)). take (end + 1) (contents f)) (durable content may) ∙ front)

-- steps that keep the blobs
pub keeps_then : (name : List ℕ) (a b c : Disk) → sealed (b.files name) ≡ sealed (a.files name) → Effect (IsName name) (Keeps name a) a b → Effect (IsName name) (Keeps name b) b c → Effect (IsName name) (Keeps name a) a c
keeps_then name a b c same first second = effect_then first (effect_weaken (λ image kept. kept ∙ same) second)

-- opening the gate byte

abbrev pub KeepsOrAdds : List ℕ → Disk → List ℕ → Files → Type 0
KeepsOrAdds name a blob image = (sealed (image name) ≡ sealed (a.files name)) ⊎ (sealed (image name) ≡ sealed (a.files name) ++ blob ∷ [])

pub open_crash : (spans : List (ℕ × ℕ)) (end size : ℕ) (name : List ℕ) (a b : Disk) → Quiet spans end name a → IsPrepared end size (contents (a.files name)) → Effect (IsName name) (λ image. LeavesWrite end 1 (a.files name) (image name)) a b → Effect (IsName name) (KeepsOrAdds name a (read_at (contents (a.files name)) (end + 9) size)) a b
open_crash spans end size name a b quiet prepared effect =
    effect_weaken (λ image leaves.
    let torn = torn-contents end 1 (a.files name) (image name) leaves in
    elim (equal_or_not (slice_index (contents (image name)) end) 1) [
      | inl one ↦ inr (opened_sealed spans end size (contents (a.files name)) (contents (image name)) quiet.stands prepared torn one)
      | inr differ ↦ inl (shut_sealed spans end (contents (a.files name)) (contents (image name)) quiet.stands torn differ)
    ]) effect

pub open_sealed : (spans : List (ℕ × ℕ)) (end size : ℕ) (name : List ℕ) (a b : Disk) → Quiet spans end name a → IsPrepared end size (contents (a.files name)) → b.files name ≡ Some (written (contents (a.files name)) end (1 ∷ [])) → sealed (b.files name) ≡ sealed (a.files name) ++ read_at (contents (a.files name)) (end + 9) size ∷ []
open_sealed spans end size name a b quiet prepared wrote =
    let file = ap contents wrote in
    ap blobs_in file
    ∙ opened_sealed spans end size (contents (a.files name)) (written (contents (a.files name)) end (1 ∷ [])) quiet.stands prepared (torn-written end (contents (a.files name)) (1 ∷ [])) (byte_written end 1 (contents (a.files name)) quiet.stands.within)

pub open_quiet : (spans : List (ℕ × ℕ)) (end size : ℕ) (name : List ℕ) (a b : Disk) → Quiet spans end name a → IsPrepared end size (contents (a.files name)) → b.files name ≡ Some (written (contents (a.files name)) end (1 ∷ [])) → IsDurable b name → Quiet (spans ++ (end + 9, size) ∷ []) (end + 9 + size) name b
open_quiet spans end size name a b quiet prepared wrote durable =
    let file : contents (b.files name) ≡ written (contents (a.files name)) end (1 ∷ []) = ap contents wrote in
    let torn = torn-written end (contents (a.files name)) (1 ∷ []) in
    let Of : List ℕ → Type 0 = Stands (spans ++ (end + 9, size) ∷ []) (end + 9 + size) in
    let room : end + 9 + size < length (contents (a.files name)) = prepared.inside in
    let lengths : length (contents (b.files name)) ≡ length (contents (a.files name)) = ap length file ∙ length-torn end 1 (contents (a.files name)) (written (contents (a.files name)) end (1 ∷ [])) (omega arith) torn in
    let next : slice_index (contents (b.files name)) (end + 9 + size) ≡ slice_index (contents (a.files name)) (end + 9 + size) = ap (λ (f : List ℕ). get_or f (end + 9 + size) 0) file ∙ torn.outside (end + 9 + size) (omega arith) (inr (omega arith)) in
    record {
      stands = subst Of (sym file) (opened_stands spans end size (contents (a.files name)) (written (contents (a.files name)) end (1 ∷ [])) quiet.stands prepared torn (byte_written end 1 (contents (a.files name)) quiet.stands.within));
      inside = omega (arith, lengths);
      closed = λ one. prepared.closed (sym next ∙ one);
      left = λ content may. ap (λ (f : Option (List ℕ)). take (end + 9 + size + 1) (contents f)) (durable content may);
    }

-- sealing: preparing, and then opening

pub seal_crash : (spans : List (ℕ × ℕ)) (end size : ℕ) (name blob : List ℕ) (a b d : Disk) → sealed (b.files name) ≡ sealed (a.files name) → read_at (contents (b.files name)) (end + 9) size ≡ blob → Effect (IsName name) (Keeps name a) a b → Quiet spans end name b → IsPrepared end size (contents (b.files name)) → Effect (IsName name) (λ image. LeavesWrite end 1 (b.files name) (image name)) b d → Effect (IsName name) (KeepsOrAdds name a blob) a d
seal_crash spans end size name blob a b d same is first quiet prepared second =
    effect_then (effect_weaken (λ image kept. inl kept) first)
    (effect_weaken (λ image either. elim either [
      | inl kept ↦ inl (kept ∙ same)
      | inr added ↦ inr (added ∙ ap (λ (bs : List (List ℕ)). bs ++ read_at (contents (b.files name)) (end + 9) size ∷ []) same ∙ ap (λ (x : List ℕ). sealed (a.files name) ++ x ∷ []) is)
    ]) (open_crash spans end size name b d quiet prepared second))

pub seal_value : (spans : List (ℕ × ℕ)) (end size : ℕ) (name blob : List ℕ) (a b d : Disk) → sealed (b.files name) ≡ sealed (a.files name) → read_at (contents (b.files name)) (end + 9) size ≡ blob → Quiet spans end name b → IsPrepared end size (contents (b.files name)) → d.files name ≡ Some (written (contents (b.files name)) end (1 ∷ [])) → sealed (d.files name) ≡ sealed (a.files name) ++ blob ∷ []
seal_value spans end size name blob a b d same is quiet prepared wrote =
    open_sealed spans end size name b d quiet prepared wrote
    ∙ ap (λ (bs : List (List ℕ)). bs ++ read_at (contents (b.files name)) (end + 9) size ∷ []) same
    ∙ ap (λ (x : List ℕ). sealed (a.files name) ++ x ∷ []) is

-- cutting what stands behind the closed gate byte

pub cut_front : (spans : List (ℕ × ℕ)) (end len : ℕ) (name : List ℕ) (a : Disk) (before after : Option (List ℕ)) → Quiet spans end name a → len ≡ end + 1 → a.may name before → LeavesCut len before after → take (end + 1) (contents after) ≡ take (end + 1) (contents (a.files name))
cut_front spans end len name a before after quiet is may leaves =
    let was = quiet.left before may in
    elim leaves [
      | inl same ↦ ap (λ (f : Option (List ℕ)). take (end + 1) (contents f)) same ∙ was
      | inr cut ↦ ap (λ (f : Option (List ℕ)). take (end + 1) (contents f)) cut ∙ taken before (end + 1) len (sym is) ∙ was
    ]
  where
    taken : (file : Option (List ℕ)) (m n : ℕ) → m ≡ n → take m (contents (option_map (take n) file)) ≡ take m (contents file)
    taken None m n is = refl
    taken (Some f) m n is = ap (λ (k : ℕ). take m (take k f)) (sym is) ∙ take-take m m f (omega arith)

pub cut_crash : (spans : List (ℕ × ℕ)) (end len : ℕ) (name : List ℕ) (a b : Disk) → Quiet spans end name a → len ≡ end + 1 → CallsOn name (LeavesCut len) a b → Effect (IsName name) (Keeps name a) a b
cut_crash spans end len name a b quiet is call =
    effect_of_call (λ image before may leaves. quiet_front spans end name a (image name) quiet (cut_front spans end len name a before (image name) quiet is may leaves)) call

cut_file : (file : Option (List ℕ)) (m n : ℕ) → m ≡ n → take m (contents (option_map (take n) file)) ≡ take m (contents file)
cut_file None m n is = refl
cut_file (Some f) m n is = ap (λ (k : ℕ). take m (take k f)) (sym is) ∙ take-take m m f (omega arith)

pub cut_sealed : (spans : List (ℕ × ℕ)) (end len : ℕ) (name : List ℕ) (a b : Disk) → Quiet spans end name a → len ≡ end + 1 → b.files name ≡ option_map (take len) (a.files name) → sealed (b.files name) ≡ sealed (a.files name)
cut_sealed spans end len name a b quiet is cut =
    quiet_front spans end name a (b.files name) quiet (ap (λ (f : Option (List ℕ)). take (end + 1) (contents f)) cut ∙ cut_file (a.files name) (end + 1) len (sym is))

pub cut_quiet : (spans : List (ℕ × ℕ)) (end len : ℕ) (name : List ℕ) (a b : Disk) → Quiet spans end name a → len ≡ end + 1 → CallsOn name (LeavesCut len) a b → b.files name ≡ option_map (take len) (a.files name) → Quiet spans end name b
cut_quiet spans end len name a b quiet is call cut =
    quiet_by spans end name a b quiet (ap (λ (f : Option (List ℕ)). take (end + 1) (contents f)) cut ∙ cut_file (a.files name) (end + 1) len (sym is))
    (λ content may. let one = call.left content may in cut_front spans end len name a one.0 content quiet is one.1 one.2)

pub cut_there : (file : Option (List ℕ)) (n len : ℕ) → n < length (contents file) → len ≡ n + 1 → IsSomeAnd file (λ f. len ≤ length f)
cut_there None n len inside is = absurd (omega arith)
cut_there (Some f) n len inside is = omega arith

-- nothing was done
pub at_none : (spans : List (ℕ × ℕ)) (end : ℕ) (is_closed : Bool) (name : List ℕ) (a : Disk) → IsAt spans end is_closed name a → Effect (IsName name) (Keeps name a) a a
at_none spans end true name a quiet = quiet_none spans end name a quiet
at_none spans end false name a loose = effect_none a (λ image mine. ap sealed (loose.durable (image name) (mine name refl)))

-- making a gate file

pub start_image : (n : ℕ) (file before : Option (List ℕ)) → n ≡ 17 → before ≡ None → LeavesWrite 0 n before file → sealed file ≡ []
start_image n file before is gone leaves =
    let torn = torn-contents 0 n before file leaves in
    let empty : length (contents before) ≡ 0 = ap (λ (f : Option (List ℕ)). length (contents f)) gone in
    let longest : length (contents file) ≤ max (length (contents before)) (0 + n) = torn.no_longer in
    no_blobs (contents file) (ended_spans (contents file) (short_blob (contents file) 16 (omega (arith, longest, empty, is))))

nothing_sealed : sealed None ≡ []
nothing_sealed = no_blobs [] (ended_spans [] (short_blob [] 16 (lit< tt)))

pub start_removed : (name : List ℕ) (a b : Disk) → Effect (IsName name) (λ image. a.may name (image name) ⊎ (image name ≡ None)) a b → Effect (IsName name) (λ image. a.may name (image name) ⊎ (sealed (image name) ≡ [])) a b
start_removed name a b effect =
    effect_weaken (λ image either. elim either [ inl before ↦ inl before | inr none ↦ inr (ap sealed none ∙ nothing_sealed) ]) effect

pub start_crash : (n : ℕ) (name : List ℕ) (a b c : Disk) → n ≡ 17 → Effect (IsName name) (λ image. a.may name (image name) ⊎ (image name ≡ None)) a b → b.files name ≡ None → Effect (IsName name) (λ image. LeavesWrite 0 n (b.files name) (image name)) b c → Effect (IsName name) (λ image. a.may name (image name) ⊎ (sealed (image name) ≡ [])) a c
start_crash n name a b c is first gone second =
    effect_then (start_removed name a b first)
    (effect_weaken (λ image leaves. inr (start_image n (image name) (b.files name) is gone leaves)) second)

pub start_quiet : (name : List ℕ) (b c : Disk) → b.files name ≡ None → c.files name ≡ Some (written (contents (b.files name)) 0 (magic ++ 0 ∷ [])) → IsDurable c name → Quiet [] 16 name c
start_quiet name b c gone wrote durable =
    let file : contents (c.files name) ≡ magic ++ 0 ∷ [] = ap contents wrote ∙ ap (λ (f : Option (List ℕ)). written (contents f) 0 (magic ++ 0 ∷ [])) gone in
    let size : length (contents (c.files name)) ≡ 17 = ap length file in
    let byte : slice_index (contents (c.files name)) 16 ≡ 0 = ap (λ (f : List ℕ). get_or f 16 0) file in
    record {
      stands = record {
        lies = refl;
        ends = short_blob (contents (c.files name)) 16 (omega (arith, size));
        is_gate = (ap (take 16) file, omega (arith, size));
        within = omega (arith, size);
      };
      inside = omega (arith, size);
      closed = λ one. absurd (omega (arith, byte, one));
      left = λ content may. ap (λ (f : Option (List ℕ)). take (16 + 1) (contents f)) (durable content may);
    }

-- emptying

abbrev pub KeepsOrEmpties : List ℕ → Disk → Files → Type 0
KeepsOrEmpties name a image = (sealed (image name) ≡ sealed (a.files name)) ⊎ (sealed (image name) ≡ [])

pub erase_crash : (spans : List (ℕ × ℕ)) (end : ℕ) (name : List ℕ) (a b c : Disk) → 0 < length spans → Quiet spans end name b → b.files name ≡ a.files name → Effect (IsName name) (Keeps name a) a b → Effect (IsName name) (λ image. LeavesWrite 16 1 (b.files name) (image name)) b c → Effect (IsName name) (KeepsOrEmpties name a) a c
erase_crash spans end name a b c some quiet same first second =
    effect_then (effect_weaken (λ image kept. inl kept) first)
    (effect_weaken (λ image leaves. elim (erasing spans end (contents (b.files name)) (contents (image name)) some quiet.stands (torn-contents 16 1 (b.files name) (image name) leaves)) [
      | inl kept ↦ inl (kept ∙ ap sealed same)
      | inr gone ↦ inr gone
    ]) second)

pub erase_quiet : (spans : List (ℕ × ℕ)) (end : ℕ) (name : List ℕ) (b c : Disk) → Quiet spans end name b → c.files name ≡ Some (written (contents (b.files name)) 16 (0 ∷ [])) → IsDurable c name → Quiet [] 16 name c
erase_quiet spans end name b c quiet wrote durable =
    let file : contents (c.files name) ≡ written (contents (b.files name)) 16 (0 ∷ []) = ap contents wrote in
    let Of : List ℕ → Type 0 = Stands [] 16 in
    let stands = subst Of (sym file) (erased spans end (contents (b.files name)) quiet.stands) in
    let byte : slice_index (contents (c.files name)) 16 ≡ 0 = ap (λ (f : List ℕ). get_or f 16 0) file ∙ byte_written 16 0 (contents (b.files name)) (omega (arith, quiet.stands.is_gate.1)) in
    record {
      stands = stands;
      inside = omega (arith, stands.is_gate.1);
      closed = λ one. absurd (omega (arith, byte, one));
      left = λ content may. ap (λ (f : Option (List ℕ)). take (16 + 1) (contents f)) (durable content may);
    }

pub no_spans : (name : List ℕ) (c : Disk) → Quiet [] 16 name c → sealed (c.files name) ≡ []
no_spans name c quiet = no_blobs (contents (c.files name)) (ended_spans (contents (c.files name)) quiet.stands.ends)

-- a gate file with no blob
pub none_quiet : (spans : List (ℕ × ℕ)) (end : ℕ) (name : List ℕ) (a : Disk) → spans ≡ [] → Quiet spans end name a → Quiet [] 16 name a
none_quiet [] end name a none quiet =
    let here : 16 ≡ end = quiet.stands.lies in
    let At : ℕ → Type 0 = λ e. Quiet [] e name a in
    subst At (sym here) quiet
none_quiet (span ∷ spans) end name a none quiet = absurd (cc)

-- emptying a file, in three steps
pub empty_erased : (name : List ℕ) (a b c : Disk) → sealed (b.files name) ≡ sealed (a.files name) → Effect (IsName name) (Keeps name a) a b → Effect (IsName name) (KeepsOrEmpties name b) b c → Effect (IsName name) (KeepsOrEmpties name a) a c
empty_erased name a b c same first second =
    effect_then (effect_weaken (λ image kept. inl kept) first)
    (effect_weaken (λ image either. elim either [ inl kept ↦ inl (kept ∙ same) | inr gone ↦ inr gone ]) second)

pub empty_trimmed : (name : List ℕ) (a b c d : Disk) → sealed (b.files name) ≡ sealed (a.files name) → sealed (c.files name) ≡ [] → Effect (IsName name) (Keeps name a) a b → Effect (IsName name) (KeepsOrEmpties name b) b c → Effect (IsName name) (Keeps name c) c d → Effect (IsName name) (KeepsOrEmpties name a) a d
empty_trimmed name a b c d same gone first second third =
    effect_then (empty_erased name a b c same first second) (effect_weaken (λ image kept. inr (kept ∙ gone)) third)
