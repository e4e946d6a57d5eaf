-- What calls of an engine do with acts that outlast a run.
use Rattle.std.proofs.Common.{◌≡◌, ℕ, ◌+◌, true, false, List, [], ◌∷◌, map, None, Option, Some, refl, sym, ◌∙◌, ap, subst}
use Rattle.std.specs.Prelude.{OnOk, Result}
use Rattle.std.specs.List.{AllByRecursion}
use Rattle.bk_acts.specs.Conditions.{KeepRecords}
use Rattle.bk_acts.specs.Conditions as conditions
use Rattle.bk_acts.specs.declared.act.StoredAct.TheVariants as kind
use Rattle.bk_acts.specs.Meaning.{Spell}
use Rattle.bk_device.specs.Compose.{effect_weaken}
use Rattle.bk_device.specs.Disk.{Disk}
use Rattle.bk_device.specs.Effects.{Effect}
use Rattle.bk_engine.specs.Acts.{CutsAct, CutsSaying, DoesAct, HaveNoFileOf, MayMark, MaySayIn, marking}
use Rattle.bk_engine.specs.Stands.{IsOurs, Kept, StandsFor}
use Rattle.bk_hosted.specs.Hosted.{SaysNoCheckpoint, is_checkpoint}
use Rattle.bk_ids.specs.declared.record.Rec.{Rec}
use Rattle.bk_kept.specs.Stored.{IsDone, IsTaken, MarksEnd}
use Rattle.bk_machine.specs.Acts.{Act, based, created, done, dropped, logged}
use Rattle.bk_machine.specs.MayDo.{HoldsOf, MayDo}
use Rattle.bk_machine.specs.World.{Database, World, database_named, log_of}
use Rattle.bk_restarts.specs.Crashes.{CutIn}
use Rattle.bk_restarts.specs.CutLaws.{cut-saying}
use Rattle.bk_shown.specs.Shown.{AreNext}
use Rattle.bk_undo.specs.Spelled.{body_of, spelled}
use Rattle.bk_world.specs.declared.database.Creation.{Creation}
use Rattle.bk_world.specs.declared.header.Header.{Header}
use Rattle.bk_world.specs.declared.transaction.Open.{Open}
use Rattle.bk_world.specs.Records.{Deed, Said, begun, checkpointed, committed, database_made, loaded, model_set, numbered, recovered, rolled_back, stamped, table_made, undone, written}
use Rattle.bk_executing.specs.Parts.{CutsStored, DoesStored}
use Rattle.bk_executing.proofs.PartsDone.{whole-cut}
use Rattle.bk_executing.proofs.Files.{HaveBytes, NameLaw, no-file-of}
use Rattle.bk_executing.proofs.Results.{of-ok, on-all}

module _ {A E : Type 0} (result : Result A E) (e new : Kept) (a b : Disk) where
  -- a database is made
  pub created-does : NameLaw → (c : Creation) → HaveBytes c.storage.files → ((w : World) → StandsFor a e w → MayDo w (created c) → HaveNoFileOf w c → OnOk result (StandsFor b new (done w (created c)))) → OnOk result (DoesStored e a (kind.Created c) new b)
  created-does law c bytes does = on-all result (λ value ok. λ w act is stored.
      let may : MayDo w (created c) = subst (MayDo w) stored.means stored.may in
      subst (λ (x : Act). StandsFor b new (done w x)) (sym stored.means) (of-ok result value ok (does w is may (no-file-of law a e w c is bytes stored.unused))))

  pub created-cuts : NameLaw → (c : Creation) → HaveBytes c.storage.files → ((w : World) → StandsFor a e w → MayDo w (created c) → HaveNoFileOf w c → Effect IsOurs (CutsAct w (created c)) a b) → CutsStored e a (kind.Created c) b
  created-cuts law c bytes cuts w act acts is stored =
      let may : MayDo w (created c) = subst (MayDo w) stored.means stored.may in
      whole-cut w (created c) act acts stored.means (cuts w is may (no-file-of law a e w c is bytes stored.unused))

  -- one is dropped
  pub dropped-does : (name : List ℕ) → OnOk result (DoesAct e a (dropped name) new b) → OnOk result (DoesStored e a (kind.Dropped name) new b)
  dropped-does name does = on-all result (λ value ok. λ w act is stored. subst (λ (x : Act). StandsFor b new (done w x)) (sym stored.means) (of-ok result value ok does w is tt))

  pub dropped-cuts : (name : List ℕ) → ((w : World) → StandsFor a e w → Effect IsOurs (CutsAct w (dropped name)) a b) → CutsStored e a (kind.Dropped name) b
  dropped-cuts name cuts w act acts is stored = whole-cut w (dropped name) act acts stored.means (cuts w is)

  -- one is based on a set
  pub based-does : (name : List ℕ) (header : Header) → OnOk result (DoesAct e a (based name header) new b) → OnOk result (DoesStored e a (kind.Based name header) new b)
  based-does name header does = on-all result (λ value ok. λ w act is stored. subst (λ (x : Act). StandsFor b new (done w x)) (sym stored.means) (of-ok result value ok does w is tt))

  pub based-cuts : (name : List ℕ) (header : Header) → ((w : World) → StandsFor a e w → Effect IsOurs (CutsAct w (based name header)) a b) → CutsStored e a (kind.Based name header) b
  based-cuts name header cuts w act acts is stored = whole-cut w (based name header) act acts stored.means (cuts w is)

-- ---- what is said

-- the database of a name, where something holds of it
holds-some : (P : Database → Type 0) (o : Option Database) → HoldsOf o P → (db : Database) × (o ≡ Some db) × P db
holds-some P None holds = absurd holds
holds-some P (Some db) holds = (db, refl, holds)

pub holds-at : (P : Database → Type 0) (o : Option Database) (db : Database) → o ≡ Some db → HoldsOf o P → P db
holds-at P o db is holds = subst (λ x. HoldsOf x P) is holds

abbrev first_number : List Rec → ℕ
first_number [] = 0
first_number (r ∷ records) = r.lsn

-- what is spelled from some number on is spelled from the end on
from-end : (records : List Rec) (n m : ℕ) (said other : List Said) → Spell records n said → Spell records m other → map spelled (numbered m said) ≡ records
from-end records n m [] other here there = sym here
from-end records n m (s ∷ said) [] here there = let bad : map spelled (numbered n (s ∷ said)) ≡ [] = sym here ∙ there in absurd (cc)
from-end records n m (s ∷ said) (o ∷ other) here there =
    let same : n ≡ m = ap first_number (sym here ∙ there) in
    subst (λ (k : ℕ). map spelled (numbered k (s ∷ said)) ≡ records) same (sym here)

plain-deed : (d : Deed) → conditions.is_checkpoint (body_of d) ≡ false → is_checkpoint d ≡ false
plain-deed (database_made time family branch) is = refl
plain-deed (table_made time spec) is = refl
plain-deed begun is = refl
plain-deed (written at before c) is = refl
plain-deed (committed time mark) is = refl
plain-deed rolled_back is = refl
plain-deed (undone at c n) is = refl
plain-deed (checkpointed time) is = is
plain-deed (stamped time set) is = refl
plain-deed (model_set time model) is = refl
plain-deed (loaded load) is = refl
plain-deed (recovered branch) is = refl

plain-said : (n : ℕ) (said : List Said) → AllByRecursion (λ (r : Rec). conditions.is_checkpoint r.body ≡ false) (map spelled (numbered n said)) → SaysNoCheckpoint said
plain-said n [] all = tt
plain-said n (s ∷ said) all = (plain-deed s.deed all.0, plain-said (n + 1) said all.1)

says-in : (w : World) (name : List ℕ) (transactions : List Open) (records : List Rec) (act : Act) → KeepRecords records → IsDone w (kind.Logged name transactions records) act
    → (said : List Said) × MaySayIn w name said transactions records true × (act ≡ logged name said transactions)
says-in w name transactions records act keep stored =
    let said : List Said = stored.means.said in
    let from = holds-some (λ (db : Database). (others : List Said) × Spell records db.end others) (database_named w.databases name) stored.from_end in
    let Next : Act → Type 0 = IsTaken w in (
      said,
      record {
        db = from.0;
        found = from.1;
        may = subst (MayDo w) stored.means.act_is stored.may;
        next = holds-at (λ (db : Database). AreNext db.files (log_of w.history db) (numbered db.end said)) (database_named w.databases name) from.0 from.1 (subst Next stored.means.act_is stored.taken);
        spelled_are = from-end records stored.means.n from.0.end said from.2.0 stored.means.spell from.2.1;
        plain = plain-said stored.means.n said (subst (λ (rs : List Rec). AllByRecursion (λ (r : Rec). conditions.is_checkpoint r.body ≡ false) rs) stored.means.spell keep.plain);
        waits = λ bad. absurd (cc);
      },
      stored.means.act_is,
    )

-- the same names, records and transactions
say-as : (w : World) (name other : List ℕ) (said : List Said) (ts us : List Open) (records rs : List Rec) → other ≡ name → us ≡ ts → rs ≡ records → MaySayIn w name said ts records true → MaySayIn w other said us rs true
say-as w name other said ts us records rs n t r may =
    subst (λ (x : List ℕ). MaySayIn w x said us rs true) (sym n) (subst (λ (x : List Open). MaySayIn w name said x rs true) (sym t) (subst (λ (x : List Rec). MaySayIn w name said ts x true) (sym r) may))

act-as : (name other : List ℕ) (said : List Said) (ts us : List Open) → other ≡ name → us ≡ ts → logged other said us ≡ logged name said ts
act-as name other said ts us n t = ap (λ (x : List ℕ). logged x said us) n ∙ ap (λ (x : List Open). logged name said x) t

module _ {A E : Type 0} (result : Result A E) (e new : Kept) (a b : Disk) (name other : List ℕ) (ts us : List Open) (records rs : List Rec) (n : other ≡ name) (t : us ≡ ts) (r : rs ≡ records) (keep : KeepRecords records) where
  pub says-does : ((w : World) (said : List Said) → StandsFor a e w → MaySayIn w other said us rs true → OnOk result (StandsFor b new (done w (logged other said us)))) → OnOk result (DoesStored e a (kind.Logged name ts records) new b)
  says-does does = on-all result (λ value ok. λ w act is stored.
      let one = says-in w name ts records act keep stored in
      subst (λ (x : Act). StandsFor b new (done w x)) (act-as name other one.0 ts us n t ∙ sym one.2)
      (of-ok result value ok (does w one.0 is (say-as w name other one.0 ts us records rs n t r one.1))))

  pub says-cuts : ((w : World) (said : List Said) → StandsFor a e w → MaySayIn w other said us rs true → Effect IsOurs (CutsSaying w other said us) a b) → CutsStored e a (kind.Logged name ts records) b
  says-cuts cuts w act acts is stored =
      let one = says-in w name ts records act keep stored in
      subst (λ (x : Act). Effect IsOurs (CutIn w (x ∷ acts)) a b) (act-as name other one.0 ts us n t ∙ sym one.2)
      (effect_weaken (λ image cut. cut-saying w other one.0 us acts image cut) (cuts w one.0 is (say-as w name other one.0 ts us records rs n t r one.1)))

-- ---- a checkpoint

marked : (w : World) (name : List ℕ) (time kept : ℕ) (act : Act) → IsDone w (kind.Checkpointed name time kept) act → (db : Database) × MayMark w name time kept db × (act ≡ marking name time db)
marked w name time kept act stored =
    let one = holds-some (MarksEnd w name time kept act) (database_named w.databases name) stored.marked in (
      one.0,
      record { found = one.1; may = subst (MayDo w) one.2.act_is stored.may; kept_is = one.2.kept_is },
      one.2.act_is,
    )

module _ {A E : Type 0} (result : Result A E) (e new : Kept) (a b : Disk) where
  pub marked-does : (name : List ℕ) (time kept : ℕ) → ((w : World) (db : Database) → StandsFor a e w → MayMark w name time kept db → OnOk result (StandsFor b new (done w (marking name time db)))) → OnOk result (DoesStored e a (kind.Checkpointed name time kept) new b)
  marked-does name time kept does = on-all result (λ value ok. λ w act is stored.
      let one = marked w name time kept act stored in
      subst (λ (x : Act). StandsFor b new (done w x)) (sym one.2) (of-ok result value ok (does w one.0 is one.1)))

  pub marked-cuts : (name : List ℕ) (time kept : ℕ) → ((w : World) (db : Database) → StandsFor a e w → MayMark w name time kept db → Effect IsOurs (CutsAct w (marking name time db)) a b) → CutsStored e a (kind.Checkpointed name time kept) b
  marked-cuts name time kept cuts w act acts is stored =
      let one = marked w name time kept act stored in
      whole-cut w (marking name time one.0) act acts one.2 (cuts w one.0 is one.1)
