-- How what calls and layers did to a device composes.
use Rattle.std.proofs.Common.{◌≡◌, ◌≢◌, ◌⊎◌, ℕ, List, [], ◌∷◌, ◌++◌, Option, refl, inl, inr, subst, ap, sym, ◌∙◌, arith}
use Rattle.bk_device.specs.Calls.{LeavesSame, CallsOn, ChangesNothing, TellsFront, TellsBytes}
use Rattle.bk_device.specs.Disk.{Files, Disk, MayLeave, IsDurable, IsSettled, IsLawful, replaced}
use Rattle.bk_device.specs.Effects.{MayLeaveOwn, MayLeaveOthers, IsName, Effect, KeepsFiles, LeavesSince, Among}
use Rattle.bk_device.specs.Names.{same_or_other, replaced-same, replaced-other}

-- an effect, then an effect
pub effect_then : {own : List ℕ → Type 0} {P : Files → Type 0} {a b c : Disk} → Effect own P a b → Effect own P b c → Effect own P a c
effect_then first second = record {
  others = λ name off. second.others name off ∙ first.others name off;
  others_left = λ name off content may. first.others_left name off content (second.others_left name off content may);
  told = second.told ∙ first.told;
  now = second.now;
  time = record {
    later = omega (arith, first.time.later, second.time.later);
    nothing_else = λ since image heard early left.
        elim (second.time.nothing_else since image heard (omega (arith, first.time.later)) left) [
          | inl before ↦ first.time.nothing_else since image heard early before
          | inr here ↦ inr (here.0, (λ name off. first.others_left name off (image name) (here.1 name off)), here.2 ∙ first.told)
        ];
    nothing_forgotten = λ since image heard early left.
        second.time.nothing_forgotten since image heard (omega (arith, first.time.later)) (first.time.nothing_forgotten since image heard early left);
  };
}

-- a weaker word for what is left
pub effect_weaken : {own : List ℕ → Type 0} {P Q : Files → Type 0} {a b : Disk} → ((image : Files) → P image → Q image) → Effect own P a b → Effect own Q a b
effect_weaken weaker effect = record {
  others = effect.others;
  others_left = effect.others_left;
  told = effect.told;
  now = λ image own. weaker image (effect.now image own);
  time = record {
    later = effect.time.later;
    nothing_else = λ since image heard early left.
        elim (effect.time.nothing_else since image heard early left) [
          | inl before ↦ inl before
          | inr here ↦ inr (weaker image here.0, here.1, here.2)
        ];
    nothing_forgotten = effect.time.nothing_forgotten;
  };
}

-- from the names of a part to more names, of which a crash leaves what it might have left before
pub effect_widen : {part own : List ℕ → Type 0} {P Q : Files → Type 0} {a b : Disk} → ((name : List ℕ) → part name → own name) → ((image : Files) → P image → ((name : List ℕ) → (part name → ⊥) → own name → a.may name (image name)) → Q image) → Effect part P a b → Effect own Q a b
effect_widen within wider effect = record {
  others = λ name off. effect.others name (λ at. off (within name at));
  others_left = λ name off. effect.others_left name (λ at. off (within name at));
  told = effect.told;
  now = λ image mine. wider image (effect.now image (λ name at. mine name (within name at))) (λ name off at. effect.others_left name off (image name) (mine name at));
  time = record {
    later = effect.time.later;
    nothing_else = λ since image heard early left.
        elim (effect.time.nothing_else since image heard early left) [
          | inl before ↦ inl before
          | inr here ↦ inr (wider image here.0 (λ name off _. here.1 name off), (λ name off. here.1 name (λ at. off (within name at))), here.2)
        ];
    nothing_forgotten = effect.time.nothing_forgotten;
  };
}

-- an effect, then one on part of its names
pub effect_follow : {own part : List ℕ → Type 0} {P Q : Files → Type 0} {a b c : Disk} → Effect own P a b → ((name : List ℕ) → part name → own name) → ((image : Files) → Q image → ((name : List ℕ) → (part name → ⊥) → own name → b.may name (image name)) → P image) → Effect part Q b c → Effect own P a c
effect_follow first within wider second = effect_then first (effect_widen within wider second)

-- nothing was done
pub effect_none : {own : List ℕ → Type 0} {P : Files → Type 0} (a : Disk) → ((image : Files) → MayLeaveOwn own a image → P image) → Effect own P a a
effect_none a before = record {
  others = λ _ _. refl;
  others_left = λ _ _ _ may. may;
  told = refl;
  now = before;
  time = record {
    later = omega arith;
    nothing_else = λ since image heard early left. inl left;
    nothing_forgotten = λ since image heard early left. left;
  };
}

-- a call that changes nothing
pub effect_of_nothing : {own : List ℕ → Type 0} {P : Files → Type 0} {a b : Disk} → ((image : Files) → MayLeaveOwn own a image → P image) → ChangesNothing a b → Effect own P a b
effect_of_nothing before call = record {
  others = λ name _. call.files name;
  others_left = λ name _. call.nothing_more name;
  told = call.told;
  now = λ image mine. before image (λ name at. call.nothing_more name (image name) (mine name at));
  time = record {
    later = call.time.later;
    nothing_else = λ since image heard early left.
        elim (call.time.nothing_else since image heard early left) [
          | inl earlier ↦ inl earlier
          | inr here ↦ inr (before image (λ name _. call.nothing_more name (image name) (here.0 name)), (λ name _. call.nothing_more name (image name) (here.0 name)), here.1)
        ];
    nothing_forgotten = call.time.nothing_forgotten;
  };
}

-- a call on one file, as an effect on its name
pub effect_of_call : {name : List ℕ} {leaves : Option (List ℕ) → Option (List ℕ) → Type 0} {P : Files → Type 0} {a b : Disk} → ((image : Files) (before : Option (List ℕ)) → a.may name before → leaves before (image name) → P image) → CallsOn name leaves a b → Effect (IsName name) P a b
effect_of_call {name} left call = record {
  others = call.others;
  others_left = λ other off content. call.others_left other content off;
  told = call.told;
  now = λ image mine. let one = call.left (image name) (mine name refl) in left image one.0 one.1 one.2;
  time = record {
    later = call.time.later;
    nothing_else = λ since image heard early gone.
        elim (call.time.nothing_else since image heard early gone) [
          | inl earlier ↦ inl earlier
          | inr here ↦ let one = call.left (image name) (here.0 name) in
              inr (left image one.0 one.1 one.2, (λ other off. call.others_left other (image other) off (here.0 other)), here.1)
        ];
    nothing_forgotten = call.time.nothing_forgotten;
  };
}

-- files that might have been left before a call, from files that may be left after it
before_call : (own : List ℕ → Type 0) (name : List ℕ) (a b : Disk) (image : Files) (before : Option (List ℕ)) → ((other : List ℕ) (content : Option (List ℕ)) → other ≢ name → b.may other content → a.may other content) → a.may name before → MayLeaveOwn own b image → MayLeaveOwn own a (replaced image name before)
before_call own name a b image before others mine may other at =
    elim (same_or_other name other) [
      | inl same ↦
          let there : replaced image name before other ≡ before = ap (replaced image name before) same ∙ replaced-same image name before in
          let Left : Option (List ℕ) → Type 0 = λ content. a.may other content in
          let Under : List ℕ → Type 0 = λ n. a.may n before in
          subst Left (sym there) (subst Under (sym same) mine)
      | inr differ ↦
          let Left : Option (List ℕ) → Type 0 = λ content. a.may other content in
          subst Left (sym (replaced-other image name before other differ)) (others other (image other) differ (may other at))
    ]

-- One call as a step, from files that have P to files that have Q. The call's name is one of more names.
pub effect_of_step : {own : List ℕ → Type 0} {name : List ℕ} {leaves : Option (List ℕ) → Option (List ℕ) → Type 0} {P Q : Files → Type 0} {a b : Disk} → own name → ((image : Files) → MayLeaveOwn own a image → P image) → ((before after : Files) → P before → leaves (before name) (after name) → ((other : List ℕ) → other ≢ name → after other ≡ before other) → Q after) → CallsOn name leaves a b → Effect own Q a b
effect_of_step {own} {name} {leaves} {P} {Q} {a} {b} among stable step call =
    let leads : (image : Files) → MayLeaveOwn own b image → Q image = λ image mine.
    let one = call.left (image name) (mine name among) in
    let before : Files = replaced image name one.0 in
    let From : Option (List ℕ) → Type 0 = λ content. leaves content (image name) in
    step before image
    (stable before (before_call own name a b image one.0 call.others_left one.1 mine))
    (subst From (sym (replaced-same image name one.0)) one.2)
    (λ other differ. sym (replaced-other image name one.0 other differ))
    in record {
      others = λ other off. call.others other (λ same. off (subst own (sym same) among));
      others_left = λ other off content. call.others_left other content (λ same. off (subst own (sym same) among));
      told = call.told;
      now = leads;
      time = record {
        later = call.time.later;
        nothing_else = λ since image heard early gone.
            elim (call.time.nothing_else since image heard early gone) [
              | inl earlier ↦ inl earlier
              | inr here ↦ inr (leads image (λ other _. here.0 other), (λ other off. call.others_left other (image other) (λ same. off (subst own (sym same) among)) (here.0 other)), here.1)
            ];
        nothing_forgotten = call.time.nothing_forgotten;
      };
    }

-- what may be left after a sync might have been left before it
left_before_sync : (own : List ℕ → Type 0) (name : List ℕ) (a b : Disk) (image : Files) → own name → CallsOn name LeavesSame a b → MayLeaveOwn own b image → MayLeaveOwn own a image
left_before_sync own name a b image among call mine other at =
    elim (same_or_other name other) [
      | inl same ↦
          let one = call.left (image name) (mine name among) in
          let Left : Option (List ℕ) → Type 0 = λ content. a.may name content in
          let Under : List ℕ → Type 0 = λ n. a.may n (image n) in
          subst Under (sym same) (subst Left (sym one.2) one.1)
      | inr differ ↦ call.others_left other (image other) differ (mine other at)
    ]

-- a call after which a crash leaves what it might have left before, as a sync, whose name is one of more names
pub effect_of_sync : {own : List ℕ → Type 0} {name : List ℕ} {P : Files → Type 0} {a b : Disk} → own name → ((image : Files) → MayLeaveOwn own a image → P image) → CallsOn name LeavesSame a b → Effect own P a b
effect_of_sync {own} {name} {P} {a} {b} among before call = record {
  others = λ other off. call.others other (λ same. off (subst own (sym same) among));
  others_left = λ other off content. call.others_left other content (λ same. off (subst own (sym same) among));
  told = call.told;
  now = λ image mine. before image (left_before_sync own name a b image among call mine);
  time = record {
    later = call.time.later;
    nothing_else = λ since image heard early gone.
        elim (call.time.nothing_else since image heard early gone) [
          | inl earlier ↦ inl earlier
          | inr here ↦ inr (before image (left_before_sync own name a b image among call (λ other _. here.0 other)), (λ other off. call.others_left other (image other) (λ same. off (subst own (sym same) among)) (here.0 other)), here.1)
        ];
    nothing_forgotten = call.time.nothing_forgotten;
  };
}

-- an effect, then a sync
pub effect_then_sync : {own : List ℕ → Type 0} {name : List ℕ} {P : Files → Type 0} {a b c : Disk} → Effect own P a b → own name → CallsOn name LeavesSame b c → Effect own P a c
effect_then_sync effect among call = effect_then effect (effect_of_sync among effect.now call)

-- an effect, then a call that changes nothing
pub effect_then_nothing : {own : List ℕ → Type 0} {P : Files → Type 0} {a b c : Disk} → Effect own P a b → ChangesNothing b c → Effect own P a c
effect_then_nothing effect call = effect_then effect (effect_of_nothing effect.now call)

-- an effect, then a step that keeps what may be left
pub effect_then_step : {own : List ℕ → Type 0} {name : List ℕ} {leaves : Option (List ℕ) → Option (List ℕ) → Type 0} {P : Files → Type 0} {a b c : Disk} → Effect own P a b → own name → ((before after : Files) → P before → leaves (before name) (after name) → ((other : List ℕ) → other ≢ name → after other ≡ before other) → P after) → CallsOn name leaves b c → Effect own P a c
effect_then_step effect among step call = effect_then effect (effect_of_step among effect.now step call)

-- what stays under other names

pub keeps_then : {names : List ℕ → Type 0} {a b c : Disk} → KeepsFiles names a b → KeepsFiles names b c → KeepsFiles names a c
keeps_then first second = record {
  same = λ name at. second.same name at ∙ first.same name at;
  nothing_more = λ name at content may. first.nothing_more name at content (second.nothing_more name at content may);
}

pub keeps_by_effect : {names own : List ℕ → Type 0} {P : Files → Type 0} {a b : Disk} → ((name : List ℕ) → names name → own name → ⊥) → Effect own P a b → KeepsFiles names a b
keeps_by_effect apart effect = record {
  same = λ name at. effect.others name (apart name at);
  nothing_more = λ name at. effect.others_left name (apart name at);
}

pub keeps_by_call : {names : List ℕ → Type 0} {name : List ℕ} {leaves : Option (List ℕ) → Option (List ℕ) → Type 0} {a b : Disk} → (names name → ⊥) → CallsOn name leaves a b → KeepsFiles names a b
keeps_by_call {names} off call = record {
  same = λ other at. call.others other (λ same. off (subst names same at));
  nothing_more = λ other at content. call.others_left other content (λ same. off (subst names same at));
}

pub keeps_by_nothing : {names : List ℕ → Type 0} {a b : Disk} → ChangesNothing a b → KeepsFiles names a b
keeps_by_nothing call = record {
  same = λ name _. call.files name;
  nothing_more = λ name _. call.nothing_more name;
}

pub keeps_by_telling : {names : List ℕ → Type 0} {bytes : List ℕ} {a b : Disk} → TellsBytes bytes a b → KeepsFiles names a b
keeps_by_telling call = record {
  same = λ name _. call.files name;
  nothing_more = λ name _. call.nothing_more name;
}

pub durable_kept : {names : List ℕ → Type 0} {a b : Disk} (name : List ℕ) → names name → KeepsFiles names a b → IsDurable a name → IsDurable b name
durable_kept name at keeps durable content may = durable content (keeps.nothing_more name at content may) ∙ sym (keeps.same name at)

-- where nothing is pending, a crash now leaves the files as they read
pub settled_image : (a : Disk) (image : Files) → IsSettled a → MayLeave a image → (name : List ℕ) → image name ≡ a.files name
settled_image a image settled left name = settled name (image name) (left name)

-- the crashes since some moment

-- at this moment
pub left_begins : {Q : Files → List ℕ → Type 0} (a : Disk) → IsLawful a → ((image : Files) → MayLeave a image → Q image a.told) → LeavesSince a.moment Q a
left_begins {Q} a lawful now = record {
  later = omega arith;
  each = λ image heard left.
      let here = lawful.only_now image heard left in
      let Heard : List ℕ → Type 0 = Q image in
      subst Heard (sym here.1) (now image here.0);
}

pub left_weaken : {entry : ℕ} {P Q : Files → List ℕ → Type 0} {a : Disk} → ((image : Files) (heard : List ℕ) → P image heard → Q image heard) → LeavesSince entry P a → LeavesSince entry Q a
left_weaken weaker since = record { later = since.later; each = λ image heard left. weaker image heard (since.each image heard left) }

-- after an effect
pub left_effect : {entry : ℕ} {Q : Files → List ℕ → Type 0} {own : List ℕ → Type 0} {P : Files → Type 0} {a b : Disk} → LeavesSince entry Q a → ((image : Files) → P image → MayLeaveOthers own a image → Q image a.told) → Effect own P a b → LeavesSince entry Q b
left_effect {entry} {Q} since leads effect = record {
  later = omega (arith, since.later, effect.time.later);
  each = λ image heard left.
      elim (effect.time.nothing_else entry image heard since.later left) [
        | inl earlier ↦ since.each image heard earlier
        | inr here ↦ let Heard : List ℕ → Type 0 = Q image in subst Heard (sym here.2) (leads image here.0 here.1)
      ];
}

-- after bytes were told
pub left_telling : {entry : ℕ} {Q : Files → List ℕ → Type 0} {bytes : List ℕ} {a b : Disk} → LeavesSince entry Q a → ((image : Files) (heard : List ℕ) → MayLeave a image → TellsFront bytes a.told heard → Q image heard) → TellsBytes bytes a b → LeavesSince entry Q b
left_telling {entry} since leads call = record {
  later = omega (arith, since.later, call.time.later);
  each = λ image heard left.
      elim (call.time.nothing_else entry image heard since.later left) [
        | inl earlier ↦ since.each image heard earlier
        | inr here ↦ leads image heard (λ name. call.nothing_more name (image name) (here.0 name)) here.1
      ];
}

-- after a call that changes nothing
pub left_nothing : {entry : ℕ} {Q : Files → List ℕ → Type 0} {a b : Disk} → IsLawful a → LeavesSince entry Q a → ChangesNothing a b → LeavesSince entry Q b
left_nothing {entry} {Q} {a} {b} lawful since call = record {
  later = omega (arith, since.later, call.time.later);
  each = λ image heard left.
      elim (call.time.nothing_else entry image heard since.later left) [
        | inl earlier ↦ since.each image heard earlier
        | inr here ↦
            let Heard : List ℕ → Type 0 = Q image in
            subst Heard (sym here.1) (since.each image a.told (lawful.counts_now entry image since.later (λ name. call.nothing_more name (image name) (here.0 name))))
      ];
}

-- stable steps, one deciding write, stable steps
pub decided : {own : List ℕ → Type 0} {P Q : Files → Type 0} {a b c d : Disk} → Effect own P a b → Effect own (λ image. P image ⊎ Q image) b c → Effect own Q c d → Effect own (λ image. P image ⊎ Q image) a d
decided prepared deciding finished =
    effect_then (effect_weaken (λ image here. inl here) prepared) (effect_then deciding (effect_weaken (λ image here. inr here) finished))

-- files that have P, and then files that have Q
pub before_and_after : {own : List ℕ → Type 0} {P Q : Files → Type 0} {a b c : Disk} → Effect own P a b → Effect own Q b c → Effect own (λ image. P image ⊎ Q image) a c
before_and_after first second = effect_then (effect_weaken (λ image here. inl here) first) (effect_weaken (λ image here. inr here) second)

-- one of several

pub among_here : {W : Type 0} (stands : W → Files → Type 0) (front : List W) (world : W) (back : List W) (image : Files) → stands world image → Among stands (front ++ world ∷ back) image
among_here stands [] world back image here = inl here
among_here stands (w ∷ front) world back image here = inr (among_here stands front world back image here)

-- those of a front are among those of the whole
pub among_front : {W : Type 0} (stands : W → Files → Type 0) (front back : List W) (image : Files) → Among stands front image → Among stands (front ++ back) image
among_front stands [] back image among = absurd among
among_front stands (w ∷ front) back image among =
    elim among [ inl here ↦ inl here | inr there ↦ inr (among_front stands front back image there) ]

-- those of the rest too
pub among_back : {W : Type 0} (stands : W → Files → Type 0) (front back : List W) (image : Files) → Among stands back image → Among stands (front ++ back) image
among_back stands [] back image among = among
among_back stands (w ∷ front) back image among = inr (among_back stands front back image among)

pub among_weaken : {W : Type 0} (stands lies : W → Files → Type 0) (worlds : List W) (image : Files) → ((world : W) → stands world image → lies world image) → Among stands worlds image → Among lies worlds image
among_weaken stands lies [] image weaker among = among
among_weaken stands lies (w ∷ worlds) image weaker among =
    elim among [ inl here ↦ inl (weaker w here) | inr there ↦ inr (among_weaken stands lies worlds image weaker there) ]

among_through : {W : Type 0} (stands : W → Files → Type 0) (front : List W) (between : W) (back : List W) (image : Files) → Among stands (front ++ between ∷ []) image → Among stands (front ++ between ∷ back) image
among_through stands [] between back image among = elim among [ inl here ↦ inl here | inr none ↦ absurd none ]
among_through stands (w ∷ front) between back image among =
    elim among [ inl here ↦ inl here | inr there ↦ inr (among_through stands front between back image there) ]

-- some parts, then further parts that begin where those ended
pub parts_then : {own : List ℕ → Type 0} {W : Type 0} (stands : W → Files → Type 0) (front : List W) (between : W) (back : List W) {a b c : Disk} → Effect own (Among stands (front ++ between ∷ [])) a b → Effect own (Among stands (between ∷ back)) b c → Effect own (Among stands (front ++ between ∷ back)) a c
parts_then stands front between back first second =
    effect_then
    (effect_weaken (λ image among. among_through stands front between back image among) first)
    (effect_weaken (λ image among. among_back stands front (between ∷ back) image among) second)

-- a front of the parts was done, as where a call failed between two of them
pub parts_front : {own : List ℕ → Type 0} {W : Type 0} (stands : W → Files → Type 0) (front back : List W) {a b : Disk} → Effect own (Among stands front) a b → Effect own (Among stands (front ++ back)) a b
parts_front stands front back effect = effect_weaken (λ image among. among_front stands front back image among) effect
