-- What is there of stores is removed that a record names as being made or removed.
use Rattle.std.proofs.Common.{◌≡◌, ◌⊎◌, ℕ, List, map, Some, inl, inr, sym, subst, refl}
use Rattle.std.specs.Prelude.{slice_get}
use Rattle.bk_device.specs.Compose.{durable_kept, effect_follow, effect_widen, keeps_by_effect}
use Rattle.bk_device.specs.Disk.{Disk, Files}
use Rattle.bk_device.specs.Effects.{Effect}
use Rattle.bk_filling.specs.Removing.{IsPart}
use Rattle.bk_master.specs.declared.record.Entry.{Entry}
use Rattle.bk_master.specs.declared.record.Record.{Record}
use Rattle.bk_master.specs.declared.record.Unfinished.{Unfinished}
use Rattle.bk_master.specs.Laws.{master_kept, master_left}
use Rattle.bk_master.specs.Master.{IsMaster, IsOwn as IsOfMaster, Kept as KeptMaster}
use Rattle.bk_paged.specs.Names.{IsOwn}
use Rattle.bk_segments.specs.Files.{IsOwn as IsOfLog}
use Rattle.bk_side.specs.Names.{data_file as data_name, side_file, IsOwn as IsOfSide}
use Rattle.bk_store.specs.Told.{Told}
use Rattle.bk_stores.specs.AddLaws.{named-at}
use Rattle.bk_stores.specs.Loading.{IsOfAny}
use Rattle.bk_stores.specs.NameLaws.{own-apart}
use Rattle.bk_stores.specs.SlotLaws.{slot-kept}
use Rattle.bk_stores.specs.StandLaws.{free-apart, master-apart, slots-left}
use Rattle.bk_stores.specs.Stores.{AreEntries, AreStores, IsAt, IsOfEntry, IsOurs, Kept, LeavesStores, TouchesOurs, at_paths, its_files, sealed_at, fixed_of}
use Rattle.bk_stores.specs.TouchLaws.{ours-touched, part-ours}

-- ---- names

-- a name of one of them is one of its store
any-own : (us : List Unfinished) (name : List ℕ) → (its : IsOfAny us name) → IsOwn its.1.store (at_paths its.1.paths) name
any-own us name its = subst (λ (ns : List (List ℕ)). IsOfLog its.1.store name ⊎ IsOfSide (side_file its.1.store) ns name) (sym (named-at its.1.paths)) its.3

any-entry : (r : Record) (tolds : List Told) (i : ℕ) (e : Entry) (t : Told) (name : List ℕ) → AreEntries r tolds → IsAt r.databases tolds i e t → IsOfEntry e t name → IsOfAny r.unfinished name → ⊥
any-entry r tolds i e t name is at own its = own-apart its.1.store (at_paths its.1.paths) e.store (its_files e t) (is.aside i its.0 e t its.1 at its.2) name (any-own r.unfinished name its) own

any-master : (us : List Unfinished) (name : List ℕ) → IsOfMaster name → IsOfAny us name → ⊥
any-master us name master its = master-apart its.1.store (at_paths its.1.paths) name master (any-own us name its)

-- ---- one more is removed

pub any-more : (us : List Unfinished) (k : ℕ) (u : Unfinished) {a b c : Disk} → slice_get us k ≡ Some u → Effect (IsOfAny us) (λ _. Unit {0}) a b → Effect (IsPart u.store (map data_name u.paths)) (λ _. Unit {0}) b c → Effect (IsOfAny us) (λ _. Unit {0}) a c
any-more us k u there first second = effect_follow first (λ name own. (k, u, there, own)) (λ image here left. tt) second

-- ---- what is left

pub any-keeps-master : {a b : Disk} {P : Files → Type 0} (us : List Unfinished) (m : KeptMaster) → Effect (IsOfAny us) P a b → IsMaster a m → IsMaster b m
any-keeps-master us m effect is = master_kept (keeps_by_effect (λ name master its. any-master us name master its) effect) is

pub any-stands : (s : Kept) (tolds : List Told) {P : Files → Type 0} {a b : Disk} → AreStores a s tolds → Effect (IsOfAny s.master.record.unfinished) P a b → AreStores b s tolds
any-stands s tolds is effect =
    let r : Record = s.master.record in
    record {
      master = any-keeps-master r.unfinished s.master effect is.master;
      standing = record {
        entries = is.standing.entries;
        count = is.standing.count;
        stand = λ i e slot t at there. slot-kept e slot t (keeps_by_effect (λ name own its. any-entry r tolds i e t name is.standing.entries at own its) effect) (is.standing.stand i e slot t at there);
        free = λ n above small name own.
            durable_kept name own
            (keeps_by_effect (λ name' log its. free-apart r.next n its.1.store (at_paths its.1.paths) name' above small (is.standing.entries.under its.0 its.1 its.2) log (any-own r.unfinished name' its)) effect)
            (is.standing.free n above small name own);
      };
    }

pub any-crash : (s : Kept) (tolds : List Told) {P : Files → Type 0} {a b : Disk} → AreStores a s tolds → Effect (IsOfAny s.master.record.unfinished) P a b → Effect IsOurs (LeavesStores (fixed_of s.master.record) (sealed_at s tolds) tolds) a b
any-crash s tolds {a = a} is effect =
    let r : Record = s.master.record in
    effect_widen (λ name its. inr (its.1.store, at_paths its.1.paths, any-own r.unfinished name its)) (λ image here left. record {
      «record» = r;
      is_record = master_left image is.master (λ name master. left name (λ its. any-master r.unfinished name master its) (inl master));
      is_fixed = refl;
      entries = is.standing.entries;
      each = λ i e t at. slots-left a image r.databases s.slots tolds is.standing.count is.standing.stand i e t at
          (λ name own. left name (λ its. any-entry r tolds i e t name is.standing.entries at own its) (inr (e.store, its_files e t, own)));
    }) effect

-- whatever the files hold
pub any-touched : (us : List Unfinished) {P : Files → Type 0} {a b : Disk} → Effect (IsOfAny us) P a b → TouchesOurs a b
any-touched us effect = ours-touched (λ name its. part-ours its.1.store its.1.paths name its.3) effect
