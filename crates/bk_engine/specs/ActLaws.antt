-- What acts leave of a world's instance, counter, sessions and media.
use Rattle.std.proofs.Common.{◌≡◌, ◌∙◌, ℕ, ◌+◌, List, Option, Some, None, refl, arith}
use Rattle.bk_hosted.specs.Hosted.{bringing_up}
use Rattle.bk_machine.specs.Acts.{Act, Recovery, based, created, done, done_all, dropped, goes_online, job_set, jobs_dropped, logged, medium_made, noted, readied, recovered, replaced, restored, says, seated, set_drawn, set_sealed, turned, where_found}
use Rattle.bk_machine.specs.MayDo.{HoldsOf, MayDo, MayDoAll, MayRecover}
use Rattle.bk_machine.specs.World.{Database, World, database_named}
use Rattle.bk_machine.specs.statements.Restore.{base_of}
use Rattle.bk_engine.specs.RowLaws.{IsAside, done-rows}
use Rattle.bk_engine.specs.Rows.{rows_in}
use Rattle.bk_world.specs.declared.header.Header.{Header}
use Rattle.bk_world.specs.declared.transaction.Open.{Open}
use Rattle.bk_world.specs.Records.{Said}

-- how many GUIDs an act draws
abbrev pub draws : Act → ℕ
draws (created c) = 2
draws (medium_made path) = 1
draws set_drawn = 1
draws (recovered name r) = 1
draws _ = 0

-- an act is one of the instance's
done-instance : (w : World) (act : Act) → (done w act).instance ≡ w.instance
unfolding done says goes_online
done-instance w (turned name) = refl
done-instance w (seated session) = refl
done-instance w (readied starts) = refl
done-instance w (created c) = refl
done-instance w (dropped name) = refl
done-instance w (logged name said transactions) = by (database_named w.databases name)
  where
    by : (o : Option Database) → (where_found w o (λ db. says w db said transactions)).instance ≡ w.instance
    by None = refl
    by (Some db) = refl
done-instance w (medium_made path) = refl
done-instance w set_drawn = refl
done-instance w (set_sealed path header) = refl
done-instance w (noted row) = refl
done-instance w (based name header) = refl
done-instance w (job_set name job) = refl
done-instance w jobs_dropped = refl
done-instance w (replaced name header) = refl
done-instance w (restored name base redo) = refl
done-instance w (recovered name r) = by (database_named w.databases name)
  where
    by : (o : Option Database) → (where_found w o (λ db. goes_online w db r)).instance ≡ w.instance
    by None = refl
    by (Some db) = refl

-- the counter goes on by the GUIDs that are drawn
done-counter : (w : World) (act : Act) → MayDo w act → (done w act).counter ≡ w.counter + draws act
unfolding done says goes_online
done-counter w (turned name) may = omega arith
done-counter w (seated session) may = omega arith
done-counter w (readied starts) may = omega arith
done-counter w (created c) may = refl
done-counter w (dropped name) may = omega arith
done-counter w (logged name said transactions) may = by (database_named w.databases name)
  where
    by : (o : Option Database) → (where_found w o (λ db. says w db said transactions)).counter ≡ w.counter + 0
    by None = omega arith
    by (Some db) = omega arith
done-counter w (medium_made path) may = refl
done-counter w set_drawn may = refl
done-counter w (set_sealed path header) may = omega arith
done-counter w (noted row) may = omega arith
done-counter w (based name header) may = omega arith
done-counter w (job_set name job) may = omega arith
done-counter w jobs_dropped may = omega arith
done-counter w (replaced name header) may = omega arith
done-counter w (restored name base redo) may = omega arith
done-counter w (recovered name r) may = by (database_named w.databases name) may
  where
    by : (o : Option Database) → HoldsOf o (λ (db : Database). MayRecover w db r) → (where_found w o (λ db. goes_online w db r)).counter ≡ w.counter + 1
    by None none = absurd none
    by (Some db) holds = refl

-- but for USE, `:session`, `:start` and rows that are added the sessions stay
record SeatsStay (w v : World) : Type 0 where
  pub session : v.session ≡ w.session
  pub sessions : v.sessions ≡ w.sessions

done-seats : (w : World) (act : Act) → (IsAside act → ⊥) → SeatsStay w (done w act)
unfolding done says goes_online
done-seats w (turned name) other = absurd (other tt)
done-seats w (seated session) other = absurd (other tt)
done-seats w (readied starts) other = absurd (other tt)
done-seats w (created c) other = record { session = refl; sessions = refl }
done-seats w (dropped name) other = record { session = refl; sessions = refl }
done-seats w (logged name said transactions) other = by (database_named w.databases name)
  where
    by : (o : Option Database) → SeatsStay w (where_found w o (λ db. says w db said transactions))
    by None = record { session = refl; sessions = refl }
    by (Some db) = record { session = refl; sessions = refl }
done-seats w (medium_made path) other = record { session = refl; sessions = refl }
done-seats w set_drawn other = record { session = refl; sessions = refl }
done-seats w (set_sealed path header) other = record { session = refl; sessions = refl }
done-seats w (noted row) other = absurd (other tt)
done-seats w (based name header) other = record { session = refl; sessions = refl }
done-seats w (job_set name job) other = record { session = refl; sessions = refl }
done-seats w jobs_dropped other = record { session = refl; sessions = refl }
done-seats w (replaced name header) other = record { session = refl; sessions = refl }
done-seats w (restored name base redo) other = record { session = refl; sessions = refl }
done-seats w (recovered name r) other = by (database_named w.databases name)
  where
    by : (o : Option Database) → SeatsStay w (where_found w o (λ db. goes_online w db r))
    by None = record { session = refl; sessions = refl }
    by (Some db) = record { session = refl; sessions = refl }

-- A world of the same instance and with the same sessions and rows of msdb, in which so many GUIDs more are drawn.
pub record IsBehind (w v : World) (n : ℕ) : Type 0 where
  pub instance : v.instance ≡ w.instance
  pub counter : v.counter ≡ w.counter + n
  pub session : v.session ≡ w.session
  pub sessions : v.sessions ≡ w.sessions
  pub rows : rows_in v ≡ rows_in w

pub done-behind : (w : World) (act : Act) → MayDo w act → (IsAside act → ⊥) → IsBehind w (done w act) (draws act)
done-behind w act may other =
    let seats : SeatsStay w (done w act) = done-seats w act other in
    record { instance = done-instance w act; counter = done-counter w act may; session = seats.session; sessions = seats.sessions; rows = done-rows w act other }

-- one in which a database was brought up
pub up-behind : (w : World) (name : List ℕ) (header : Header) (r : Recovery) → MayDoAll w (bringing_up name header r) → IsBehind w (done_all w (bringing_up name header r)) 1
up-behind w name header r may =
    let mid : World = done w (restored name (base_of header) header.last) in
    let first : IsBehind w mid 0 = done-behind w (restored name (base_of header) header.last) tt (λ turn. turn) in
    let second : IsBehind mid (done mid (recovered name r)) 1 = done-behind mid (recovered name r) may.1.0 (λ turn. turn) in
    let one = first.counter in
    let two = second.counter in
    record { instance = second.instance ∙ first.instance; counter = omega (arith, one, two); session = second.session ∙ first.session; sessions = second.sessions ∙ first.sessions; rows = second.rows ∙ first.rows }

-- the world itself
pub same-behind : (w : World) → IsBehind w w 0
same-behind w = record { instance = refl; counter = omega arith; session = refl; sessions = refl; rows = refl }

-- one in which a database said something, whatever that is
pub said-behind : (w : World) (name : List ℕ) (said : List Said) (transactions : List Open) → IsBehind w (done w (logged name said transactions)) 0
unfolding done says rows_in
said-behind w name said transactions = by (database_named w.databases name)
  where
    by : (o : Option Database) → IsBehind w (where_found w o (λ db. says w db said transactions)) 0
    by None = same-behind w
    by (Some db) = record { instance = refl; counter = omega arith; session = refl; sessions = refl; rows = refl }

pub said-media : (w : World) (name : List ℕ) (said : List Said) (transactions : List Open) → (done w (logged name said transactions)).media ≡ w.media
unfolding done says
said-media w name said transactions = by (database_named w.databases name)
  where
    by : (o : Option Database) → (where_found w o (λ db. says w db said transactions)).media ≡ w.media
    by None = refl
    by (Some db) = refl
