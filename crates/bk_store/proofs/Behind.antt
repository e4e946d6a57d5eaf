-- What a log says behind one more record.
use Rattle.std.proofs.Common.{◌≡◌, ◌≤◌, ◌<◌, ℕ, ◌+◌, List, [], ◌∷◌, ◌++◌, length, drop, map, None, refl, sym, ◌∙◌, ap, subst, arith, append-nil, append_assoc}
use Rattle.std.specs.List.{flat_map}
use Rattle.std.proofs.lemmas.List.{length-drop}
use Rattle.bk_ids.specs.declared.record.Body.{Body}
use Rattle.bk_ids.specs.declared.record.Body.TheVariants.{Database, Table, Begin, Write, Commit, RollbackEnd, Compensation, Checkpoint, Stamp, Model, Bulk, Recovery}
use Rattle.bk_ids.specs.declared.record.Rec.{Rec}
use Rattle.bk_record.specs.Log.{IsLog, Left, Reads}
use Rattle.bk_record.specs.RecordsLaws.{whole_is}
use Rattle.bk_record.specs.Skims.{IsWrite, Shows}
use Rattle.bk_record.specs.Spelling.{spelling, BeginsWith}
use Rattle.bk_record.specs.declared.skimming.Skimmed.{Skimmed}
use Rattle.bk_shown.specs.Readings.{made_by, model-with, tables-with, time-with}
use Rattle.bk_shown.specs.Steps.{model_behind, time_behind}
use Rattle.bk_shown.specs.ReadLaws.{next-read, none-left}
use Rattle.bk_undo.specs.Spelled.{body_of, spelled}
use Rattle.bk_world.specs.declared.database.TableSpec.{TableSpec}
use Rattle.bk_world.specs.Records.{Deed, Logged, database_made, table_made, begun, written, committed, rolled_back, undone, checkpointed, stamped, model_set, loaded, recovered}
use Rattle.bk_world.specs.Telling as telling
use Rattle.bk_store.specs.Recent.{Says, SaysFront, Takes, tables_behind}
use Rattle.bk_store.specs.declared.recent.Recent.{Recent}

made-behind : (d : Deed) (ts : List TableSpec) → tables_behind (body_of d) ts ≡ ts ++ made_by d
made-behind (table_made time spec) ts = refl
made-behind (database_made time family branch) ts = sym (append-nil ts)
made-behind begun ts = sym (append-nil ts)
made-behind (written at before c) ts = sym (append-nil ts)
made-behind (committed time mark) ts = sym (append-nil ts)
made-behind rolled_back ts = sym (append-nil ts)
made-behind (undone at c k) ts = sym (append-nil ts)
made-behind (checkpointed time) ts = sym (append-nil ts)
made-behind (stamped time set) ts = sym (append-nil ts)
made-behind (model_set time model) ts = sym (append-nil ts)
made-behind (loaded load) ts = sym (append-nil ts)
made-behind (recovered branch) ts = sym (append-nil ts)

says-more : (rs : List Logged) (r : Logged) (old new : Recent) → Says rs old → Takes (body_of r.deed) old new → Says (rs ++ r ∷ []) new
says-more rs r old new says takes = record {
  tables = takes.tables ∙ ap (tables_behind (body_of r.deed)) says.tables ∙ made-behind r.deed (telling.tables rs) ∙ sym (tables-with rs r.lsn r.begin r.deed);
  model = takes.model ∙ ap (model_behind (body_of r.deed)) says.model ∙ sym (model-with rs r.lsn r.begin r.deed);
  time = takes.time ∙ ap (time_behind (body_of r.deed)) says.time ∙ sym (time-with rs r.lsn r.begin r.deed);
}

-- one record is read
pub front-more : (rs : List Logged) (left new : Left) (r : Rec) (old then : Recent) → SaysFront rs left.bytes old → Reads left r new → Takes r.body old then → SaysFront rs new.bytes then
front-more rs left new r old then front reads takes =
    let next = next-read left new r front.left front.spells reads in
    record {
      front = front.front ++ next.first ∷ [];
      left = next.others;
      splits = front.splits ∙ ap (λ (l : List Logged). front.front ++ l) next.rest_is ∙ sym (append_assoc front.front (next.first ∷ []) next.others);
      spells = next.behind;
      says = says-more front.front next.first old then front.says (subst (λ (x : Rec). Takes x.body old then) next.read_is takes);
    }

-- a log that has bytes begins with a record
pub log-begins : (bytes : List ℕ) (left : List Logged) → IsLog bytes (map spelled left) None → 1 ≤ length bytes → (r : Rec) × (after : List ℕ) × BeginsWith bytes r after
log-begins bytes [] log some = absurd (omega (arith, some, ap length (whole_is bytes [] log)))
log-begins bytes (x ∷ left) log some = (spelled x, flat_map spelling (map spelled left), record { spelled = whole_is bytes (map spelled (x ∷ left)) log; is_record = log.are_records.0 })

-- a write tells nothing
pub row-takes : (body : Body) (r : Recent) → IsWrite body → Takes body r r
row-takes (Database _ _ _) r is = elim is [ ]
row-takes (Table _ _ _ _) r is = elim is [ ]
row-takes Begin r is = elim is [ ]
row-takes (Commit _ _) r is = elim is [ ]
row-takes RollbackEnd r is = elim is [ ]
row-takes (Compensation _ _ _) r is = elim is [ ]
row-takes (Checkpoint _) r is = elim is [ ]
row-takes (Stamp _ _) r is = elim is [ ]
row-takes (Model _ _) r is = elim is [ ]
row-takes (Bulk _ _ _ _ _) r is = elim is [ ]
row-takes (Recovery _) r is = elim is [ ]
row-takes (Write place before after) r is = record { tables = refl; model = refl; time = refl }

-- the record at a place of a log
pub record-at : (rs : List Logged) (log : List ℕ) (at next : ℕ) (old : Recent) → SaysFront rs (drop at log) old → (at < next) × (next ≤ length log) → (r : Rec) × (after : List ℕ) × BeginsWith (drop at log) r after
record-at rs log at next old front inside = log-begins (drop at log) front.left front.spells (omega (arith, length-drop at log, inside.0, inside.1))

-- one record is seen at a glance
pub front-skims : (rs : List Logged) (log : List ℕ) (at next : ℕ) (skimmed : Skimmed) (old then : Recent) → SaysFront rs (drop at log) old → (at < next) × (next ≤ length log)
    → ((r : Rec) (after : List ℕ) → BeginsWith (drop at log) r after → Shows skimmed r × (drop next log ≡ after)) → ((r : Rec) → Shows skimmed r → Takes r.body old then) → SaysFront rs (drop next log) then
front-skims rs log at next skimmed old then front inside shows takes =
    let one = record-at rs log at next old front inside in
    let r : Rec = one.0 in
    let seen = shows r one.1 one.2 in
    let left : Left = record { bytes = drop at log; at = at } in
    let new : Left = record { bytes = one.1; at = at + length (spelling r) } in
    subst (λ (bs : List ℕ). SaysFront rs bs then) (sym seen.1) (front-more rs left new r old then front (record { begins = one.2; at = refl }) (takes r seen.0))

-- nothing is left
pub front-all : (rs : List Logged) (bytes : List ℕ) (last : Recent) → SaysFront rs bytes last → bytes ≡ [] → Says rs last
front-all rs bytes last front none =
    let left : front.left ≡ [] = none-left front.left (subst (λ (bs : List ℕ). IsLog bs (map spelled front.left) None) none front.spells) in
    let same : front.front ≡ rs = sym (append-nil front.front) ∙ ap (λ (l : List Logged). front.front ++ l) (sym left) ∙ sym front.splits in
    subst (λ (l : List Logged). Says l last) same front.says
