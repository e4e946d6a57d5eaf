-- A device on which less is pending.
use Rattle.std.proofs.Common.{◌≡◌, ◌∙◌, inl, inr, ℕ, List, Option, sym, subst, arith, refl}
use Rattle.bk_device.specs.Calls.{CallsOn, ChangesNothing, Elapses, LeavesSame}
use Rattle.bk_device.specs.Disk.{Disk, MayLeave}
use Rattle.bk_device.specs.Names.{same_or_other}

-- Nothing more may be left than before, and nothing was told.
pub record Narrows (old new : Disk) : Type 0 where
  pub nothing_more : (name : List ℕ) (content : Option (List ℕ)) → new.may name content → old.may name content
  pub told : new.told ≡ old.told
  pub time : Elapses old new (λ image heard. MayLeave old image × (heard ≡ old.told))

-- nothing is done
pub narrows-none : (a : Disk) → Narrows a a
narrows-none a = record {
  nothing_more = λ name content may. may;
  told = refl;
  time = record { later = omega arith; nothing_else = λ since image heard early left. inl left; nothing_forgotten = λ since image heard early left. left };
}

-- nothing changes
pub narrows-nothing : {a b : Disk} → ChangesNothing a b → Narrows a b
narrows-nothing call = record {
  nothing_more = call.nothing_more;
  told = call.told;
  time = record {
    later = call.time.later;
    nothing_else = λ since image heard early left. elim (call.time.nothing_else since image heard early left) [ inl before ↦ inl before | inr here ↦ inr (λ name. call.nothing_more name (image name) (here.0 name), here.1) ];
    nothing_forgotten = call.time.nothing_forgotten;
  };
}

-- a file is made durable
pub narrows-sync : (name : List ℕ) {a b : Disk} → CallsOn name LeavesSame a b → Narrows a b
narrows-sync name {a} {b} call = record {
  nothing_more = less;
  told = call.told;
  time = record {
    later = call.time.later;
    nothing_else = λ since image heard early left. elim (call.time.nothing_else since image heard early left) [ inl before ↦ inl before | inr here ↦ inr (λ other. less other (image other) (here.0 other), here.1) ];
    nothing_forgotten = call.time.nothing_forgotten;
  };
}
  where
    less : (other : List ℕ) (content : Option (List ℕ)) → b.may other content → a.may other content
    less other content may = elim (same_or_other name other) [
      | inl same ↦
          let left = call.left content (subst (λ (n : List ℕ). b.may n content) same may) in
          subst (λ (n : List ℕ). a.may n content) (sym same) (subst (λ (c : Option (List ℕ)). a.may name c) (sym left.2) left.1)
      | inr apart ↦ call.others_left other content apart may
    ]

-- one call after another
pub narrows-then : {a b c : Disk} → Narrows a b → Narrows b c → Narrows a c
narrows-then first second = record {
  nothing_more = λ name content may. first.nothing_more name content (second.nothing_more name content may);
  told = second.told ∙ first.told;
  time = record {
    later = omega (arith, first.time.later, second.time.later);
    nothing_else = λ since image heard early left.
        elim (second.time.nothing_else since image heard (omega (arith, early, first.time.later)) left) [
          | inl before ↦ first.time.nothing_else since image heard early before
          | inr here ↦ inr (λ name. first.nothing_more name (image name) (here.0 name), here.1 ∙ first.told)
        ];
    nothing_forgotten = λ since image heard early left. second.time.nothing_forgotten since image heard (omega (arith, early, first.time.later)) (first.time.nothing_forgotten since image heard early left);
  };
}
