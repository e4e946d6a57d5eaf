-- A database of a sound world in which nothing is open.
use Rattle.std.proofs.Common.{◌≡◌, ◌≤◌, ℕ, List, [], ◌∷◌, length, Option, Some, true, false, refl, sym, ap, subst, arith}
use Rattle.std.specs.List.{AllByRecursion}
use Rattle.bk_world.specs.declared.database.Status.TheVariants.{Online}
use Rattle.bk_world.specs.Pending.{Pending, pending}
use Rattle.bk_world.specs.Records.{Logged}
use Rattle.bk_machine.specs.Checks.{last_number}
use Rattle.bk_machine.specs.MayDo.{HoldsOf}
use Rattle.bk_machine.specs.Sound.{AreIdle, AreOpen, IsIdle, IsSound, IsWholeDatabase, OpenBy, has_begin}
use Rattle.bk_machine.specs.World.{World, Database, database_named, log_of}
use Rattle.bk_machine.specs.NamedLaws.{of-named}

-- where no transaction is open, nothing is pending
pub nothing-pends : (rs : List Logged) (end : ℕ) → AreOpen rs end [] → pending rs ≡ []
nothing-pends rs end opens = by (pending rs) opens.pending
  where
    by : (ws : List Pending) → AllByRecursion (λ w. has_begin [] w.begin ≡ true) ws → ws ≡ []
    by [] all = refl
    by (w ∷ ws) all = let wrong : false ≡ true = all.0 in absurd cc

-- and where nothing is pending, no transaction need be open
pub nothing-open : (rs : List Logged) (end : ℕ) → pending rs ≡ [] → end ≤ last_number → AreOpen rs end []
nothing-open rs end none within = record {
  pending = subst (AllByRecursion (λ (w : Pending). has_begin [] w.begin ≡ true)) (sym none) tt;
  loads = subst (AllByRecursion (λ (w : Pending). w.extents ≡ [])) (sym none) tt;
  apart = tt;
  begins = tt;
  few = tt;
  seats = tt;
  kept = tt;
  numbers = (let nothing : length (pending rs) ≡ 0 = ap length none in omega (arith, nothing, within));
}

-- a database that is online, in which nothing is open
pub record IsReady (w : World) (db : Database) : Type 0 where
  pub named : database_named w.databases db.name ≡ Some db
  pub whole : IsWholeDatabase w db
  pub up : db.status ≡ Online
  pub closed : db.transactions ≡ []
  pub none : pending (log_of w.history db) ≡ []

pub ready : (w : World) (db : Database) → IsSound w → AreIdle w → database_named w.databases db.name ≡ Some db → db.status ≡ Online → IsReady w db
ready w db sound idle named up =
    let own : IsIdle db = of-named IsIdle w.databases db.name db idle named in
    let opens : OpenBy w.history db = of-named (OpenBy w.history) w.databases db.name db sound.opens named in record {
      named = named;
      whole = of-named (IsWholeDatabase w) w.databases db.name db sound.whole.databases named;
      up = up;
      closed = own.transactions;
      none = nothing-pends (log_of w.history db) db.end (subst (AreOpen (log_of w.history db) db.end) own.transactions (opens.online up));
    }

-- what holds of a database that is found holds of the one of its name
pub holds-of : (o : Option Database) (db : Database) (P : Database → Type 0) → o ≡ Some db → P db → HoldsOf o P
holds-of o db P is own = subst (λ (x : Option Database). HoldsOf x P) (sym is) own
