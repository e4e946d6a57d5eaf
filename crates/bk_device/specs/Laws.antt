-- What the layers above may take of calls that change nothing, and of what was read.
use Rattle.std.proofs.Common.{◌≡◌, ◌≤◌, ◌<◌, ℕ, ◌+◌, List, [], ◌++◌, length, drop, Option, inl, inr, refl, sym, ◌∙◌, ap, subst, arith, length-take, length-drop}
use Rattle.std.proofs.lemmas.List.{drop_all, append-nil}
use Rattle.bk_device.specs.Calls.{contents, read_at, filled, IsTorn, LeavesWrite, LeavesSame, CallsOn, ChangesNothing}
use Rattle.bk_device.specs.Counts.{HasCause}
use Rattle.bk_device.specs.Disk.{Files, Disk, IsDurable, IsLawful}
use Rattle.bk_device.specs.Effects.{Effect, KeepsFiles}
use Rattle.bk_device.specs.Names.{same_or_other}
use Rattle.bk_device.specs.Torn.{torn-refl}

-- calls that change nothing

-- what such a call says that a crash left was left before it
left_before : {a b : Disk} (since : ℕ) (image : Files) (heard : List ℕ) → IsLawful a → ChangesNothing a b → since ≤ a.moment → b.left since image heard → a.left since image heard
left_before {a = a} since image heard lawful call early left =
    elim (call.time.nothing_else since image heard early left) [
      | inl earlier ↦ earlier
      | inr here ↦
          let Heard : List ℕ → Type 0 = λ h. a.left since image h in
          subst Heard (sym here.1) (lawful.counts_now since image early (λ name. call.nothing_more name (image name) (here.0 name)))
    ]

-- nothing was called
pub nothing_yet : (a : Disk) → ChangesNothing a a
nothing_yet a = record {
  files = λ name. refl;
  nothing_more = λ name content may. may;
  told = refl;
  time = record { later = omega arith; nothing_else = λ since image heard early left. inl left; nothing_forgotten = λ since image heard early left. left };
}

-- two calls that change nothing change nothing
pub nothing_then : {a b c : Disk} → IsLawful a → ChangesNothing a b → ChangesNothing b c → ChangesNothing a c
nothing_then lawful first second = record {
  files = λ name. second.files name ∙ first.files name;
  nothing_more = λ name content may. first.nothing_more name content (second.nothing_more name content may);
  told = second.told ∙ first.told;
  time = record {
    later = omega (arith, first.time.later, second.time.later);
    nothing_else = λ since image heard early left.
        elim (second.time.nothing_else since image heard (omega (arith, first.time.later)) left) [
          | inl before ↦ inl (left_before since image heard lawful first early before)
          | inr here ↦ inr (here.0, here.1 ∙ first.told)
        ];
    nothing_forgotten = λ since image heard early left.
        second.time.nothing_forgotten since image heard (omega (arith, first.time.later)) (first.time.nothing_forgotten since image heard early left);
  };
}

-- a call after one that changes nothing, as one call
pub call_after_nothing : {name : List ℕ} {leaves : Option (List ℕ) → Option (List ℕ) → Type 0} {a b c : Disk} → IsLawful a → ChangesNothing a b → CallsOn name leaves b c → CallsOn name leaves a c
call_after_nothing {name} lawful first second = record {
  others = λ other off. second.others other off ∙ first.files other;
  others_left = λ other content off may. first.nothing_more other content (second.others_left other content off may);
  left = λ after may. let one = second.left after may in (one.0, first.nothing_more name one.0 one.1, one.2);
  told = second.told ∙ first.told;
  time = record {
    later = omega (arith, first.time.later, second.time.later);
    nothing_else = λ since image heard early left.
        elim (second.time.nothing_else since image heard (omega (arith, first.time.later)) left) [
          | inl before ↦ inl (left_before since image heard lawful first early before)
          | inr here ↦ inr (here.0, here.1 ∙ first.told)
        ];
    nothing_forgotten = λ since image heard early left.
        second.time.nothing_forgotten since image heard (omega (arith, first.time.later)) (first.time.nothing_forgotten since image heard early left);
  };
}

-- an effect after a call that changes nothing, as one effect
pub effect_after_nothing : {own : List ℕ → Type 0} {P : Files → Type 0} {a b c : Disk} → IsLawful a → ChangesNothing a b → Effect own P b c → Effect own P a c
effect_after_nothing lawful first second = record {
  others = λ name off. second.others name off ∙ first.files name;
  others_left = λ name off content may. first.nothing_more name content (second.others_left name off content may);
  told = second.told ∙ first.told;
  now = second.now;
  time = record {
    later = omega (arith, first.time.later, second.time.later);
    nothing_else = λ since image heard early left.
        elim (second.time.nothing_else since image heard (omega (arith, first.time.later)) left) [
          | inl before ↦ inl (left_before since image heard lawful first early before)
          | inr here ↦ inr (here.0, (λ name off. first.nothing_more name (image name) (here.1 name off)), here.2 ∙ first.told)
        ];
    nothing_forgotten = λ since image heard early left.
        second.time.nothing_forgotten since image heard (omega (arith, first.time.later)) (first.time.nothing_forgotten since image heard early left);
  };
}

-- a sync after which a read gives what it gave changes nothing
pub nothing_by_sync : {name : List ℕ} {a b : Disk} → CallsOn name LeavesSame a b → b.files name ≡ a.files name → ChangesNothing a b
nothing_by_sync {name} {a} {b} call same = record {
  files = λ other.
      elim (same_or_other name other) [
        | inl is ↦ ap b.files is ∙ same ∙ ap a.files (sym is)
        | inr off ↦ call.others other off
      ];
  nothing_more = λ other content may.
      elim (same_or_other name other) [
        | inl is ↦
            let At : List ℕ → Type 0 = λ n. a.may n content in
            let There : List ℕ → Type 0 = λ n. b.may n content in
            let one = call.left content (subst There is may) in
            let Left : Option (List ℕ) → Type 0 = λ file. a.may name file in
            subst At (sym is) (subst Left (sym one.2) one.1)
        | inr off ↦ call.others_left other content off may
      ];
  told = call.told;
  time = call.time;
}

-- what is durable

-- a call that changes nothing leaves a file durable
pub durable_by_nothing : {a b : Disk} (name : List ℕ) → ChangesNothing a b → IsDurable a name → IsDurable b name
durable_by_nothing name call durable content may = durable content (call.nothing_more name content may) ∙ sym (call.files name)

-- files that read the same, and are durable now, are kept
pub keeps_by_same : {names : List ℕ → Type 0} {a b : Disk} → IsLawful a → ((name : List ℕ) → names name → b.files name ≡ a.files name) → ((name : List ℕ) → names name → IsDurable b name) → KeepsFiles names a b
keeps_by_same {a = a} lawful same durable = record {
  same = same;
  nothing_more = λ name at content may.
      let Left : Option (List ℕ) → Type 0 = λ file. a.may name file in
      subst Left (sym (durable name at content may ∙ same name at)) (lawful.reads name);
}

-- what was written and read

-- what a write that a crash may have cut short leaves, as contents
pub torn-contents : (at n : ℕ) (before after : Option (List ℕ)) → LeavesWrite at n before after → IsTorn at n (contents before) (contents after)
torn-contents at n before after leaves =
    let Torn : Option (List ℕ) → Type 0 = λ file. IsTorn at n (contents before) (contents file) in
    elim leaves [
      | inl same ↦ subst Torn (sym same) (torn-refl at n (contents before))
      | inr wrote ↦ subst Torn (sym wrote.1) wrote.2
    ]

-- a part that lies whole in the file has its length
pub length-read_at : (file : List ℕ) (at len : ℕ) → at + len ≤ length file → length (read_at file at len) ≡ len
length-read_at file at len inside = simp (length-take, length-drop) (omega arith)

-- a buffer that was read whole
pub filled_whole : (buffer file : List ℕ) (at room : ℕ) → room ≡ length buffer → at + room ≤ length file → filled buffer (read_at file at room) ≡ read_at file at room
filled_whole buffer file at room is inside =
    let size : length (read_at file at room) ≡ room = length-read_at file at room inside in
    let rest : drop (length (read_at file at room)) buffer ≡ [] = drop_all (length (read_at file at room)) buffer (omega (arith, size, is)) in
    ap (λ (r : List ℕ). read_at file at room ++ r) rest ∙ append-nil (read_at file at room)

-- what failed

-- calls, and then a call: what failed is the last one
pub cause_then : {D : Type 0} {disk tell : D → ℕ} {a b c : D} {failed last : Type 0} → HasCause disk tell a b ⊥ → HasCause disk tell b c last → (failed → last) → HasCause disk tell a c failed
cause_then {disk = disk} {a = a} {b = b} {c = c} first second which = record {
  rose = λ is below. let more : disk b < disk c = second.rose (which is) below in omega (arith, first.never_falls, more);
  never_falls = omega (arith, first.never_falls, second.never_falls);
  tell_faults = second.tell_faults ∙ first.tell_faults;
}
