-- Logs that fit a set: what is said now is never past the last time.
use Rattle.std.proofs.Common.{◌≤◌, ℕ, List, [], ◌∷◌, arith}
use Rattle.std.specs.List.{AllByRecursion}
use Rattle.bk_world.specs.Entry.{Entry}
use Rattle.bk_world.specs.Records.{Logged}
use Rattle.bk_world.specs.Rows.{time_of}
use Rattle.bk_world.specs.Telling.{entries, time}
use Rattle.bk_machine.specs.Acts.{latest, said_time}
use Rattle.bk_machine.specs.Fits.{FitsLog}
use Rattle.bk_machine.specs.World.{Database, World, log_of}

last-of : (first : ℕ) (es : List Entry) → first ≤ latest → AllByRecursion (λ (e : Entry). e.time ≤ latest) es → time_of first es ≤ latest
last-of first [] le all = le
last-of first (e ∷ es) le all = last-of e.time es all.0 all.1

pub last-time : (groups : ℕ) (rs : List Logged) → FitsLog groups rs → time rs ≤ latest
unfolding time
last-time groups rs fits = last-of 0 (entries rs) (omega arith) fits.times

pub said-time : (w : World) (db : Database) (now groups : ℕ) → FitsLog groups (log_of w.history db) → said_time w db now ≤ latest
unfolding said_time
said-time w db now groups fits = let last : time (log_of w.history db) ≤ latest = last-time groups (log_of w.history db) fits in omega (arith, last)
