-- Which act of the machine a stored act is.
use Rattle.std.specs.Prelude.{◌≡◌, ℕ, List, map}
use Rattle.bk_ids.specs.declared.record.Rec.{Rec}
use Rattle.bk_machine.specs.Acts.{Act, created, dropped, logged, based}
use Rattle.bk_undo.specs.Spelled.{spelled}
use Rattle.bk_world.specs.Records.{Said, checkpointed, numbered}
use Rattle.bk_world.specs.Says.{alone}
use Rattle.bk_world.specs.declared.transaction.Open.{Open}
use Rattle.bk_acts.specs.declared.act.StoredAct.{StoredAct}
use Rattle.bk_acts.specs.declared.act.StoredAct.TheVariants.{Created, Dropped, Logged, Checkpointed, Based}

-- what is said, as the record of a number
abbrev pub under : ℕ → Said → Rec
under n s = spelled (record { lsn = n; begin = s.begin; deed = s.deed })

-- these records are what is said under the numbers from n on
abbrev pub Spell : List Rec → ℕ → List Said → Type 0
Spell records n said = records ≡ map spelled (numbered n said)

-- a database said what these records are, from some number on, and then these transactions are open
pub record Says (name : List ℕ) (transactions : List Open) (records : List Rec) (act : Act) : Type 0 where
  pub n : ℕ
  pub said : List Said
  pub act_is : act ≡ logged name said transactions
  pub spell : Spell records n said

-- a database said that a checkpoint was made at a time, and then some transactions are open
pub record Marks (name : List ℕ) (time : ℕ) (act : Act) : Type 0 where
  pub transactions : List Open
  pub act_is : act ≡ logged name (alone (checkpointed time)) transactions

-- the act of the machine that a stored act is
abbrev pub Means : StoredAct → Act → Type 0
Means (Created creation) act = act ≡ created creation
Means (Dropped name) act = act ≡ dropped name
Means (Logged name transactions records) act = Says name transactions records act
Means (Checkpointed name time kept) act = Marks name time act
Means (Based name header) act = act ≡ based name header
