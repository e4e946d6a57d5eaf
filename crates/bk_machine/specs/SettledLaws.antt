-- Where all is undone that was pending: worlds with the same logs and media, and worlds in which nothing is open.
use Rattle.std.proofs.Common.{◌≡◌, ℕ, ◌+◌, true, false, not, ◌&&◌, List, [], ◌∷◌, ◌++◌, length, None, refl, sym, ◌∙◌, ap, subst, arith}
use Rattle.std.specs.Prelude.{◌==◌}
use Rattle.std.proofs.lemmas.Bool.Decides.{nat_tests}
use Rattle.std.specs.List.{AllByRecursion, AllZip}
use Rattle.std.proofs.lemmas.List.{append-nil}
use Rattle.bk_world.specs.Cut.{end_behind, settled}
use Rattle.bk_world.specs.Lines.{RecordLines, log_below}
use Rattle.bk_lemmas.specs.Lists.{all_mapped}
use Rattle.bk_world.specs.Pending.{Pending, pending}
use Rattle.bk_world.specs.Records.{Counts, Logged, numbered}
use Rattle.bk_world.specs.Says.{settle_said}
use Rattle.bk_world.specs.declared.database.Status.{Status}
use Rattle.bk_world.specs.declared.database.Status.TheVariants.{Online, Standby, Down}
use Rattle.bk_world.specs.declared.header.Header.{Header}
use Rattle.bk_machine.specs.ReadyLaws.{nothing-pends}
use Rattle.bk_machine.specs.Same.{SameLogs, SameMedia}
use Rattle.bk_machine.specs.Settled.{IsSettledTo, SettledTo, needs_settling}
use Rattle.bk_machine.specs.Sound.{AreIdle, AreOpen, IsIdle, IsSound, IsWholeDatabase, OpenBy, SetIn}
use Rattle.bk_world.specs.declared.transaction.Open.{Open}
use Rattle.bk_machine.specs.World.{Database, World, log_of, opened, restarted}
use Rattle.bk_machine.specs.statements.Restore.{is_online}

-- Lists.

-- what is known of the first element of each pair
pub zip-first : {A B : Type 0} (P : A → Type 0) (R S : A → B → Type 0) → ((a : A) (b : B) → P a → R a b → S a b) → (xs : List A) (ys : List B) → AllByRecursion P xs → AllZip R xs ys → AllZip S xs ys
zip-first P R S leads [] [] all each = tt
zip-first P R S leads [] (y ∷ ys) all each = absurd each
zip-first P R S leads (x ∷ xs) [] all each = absurd each
zip-first P R S leads (x ∷ xs) (y ∷ ys) all each = (leads x y all.0 each.0, zip-first P R S leads xs ys all.1 each.1)

-- and of the second one
pub zip-second : {A B : Type 0} (Q : B → Type 0) (R S : A → B → Type 0) → ((a : A) (b : B) → Q b → R a b → S a b) → (xs : List A) (ys : List B) → AllByRecursion Q ys → AllZip R xs ys → AllZip S xs ys
zip-second Q R S leads [] [] all each = tt
zip-second Q R S leads [] (y ∷ ys) all each = absurd each
zip-second Q R S leads (x ∷ xs) [] all each = absurd each
zip-second Q R S leads (x ∷ xs) (y ∷ ys) all each = (leads x y all.0 each.0, zip-second Q R S leads xs ys all.1 each.1)

-- what each pair gives of its first element
zip-all : {A B : Type 0} (R : A → B → Type 0) (P : A → Type 0) → ((a : A) (b : B) → R a b → P a) → (xs : List A) (ys : List B) → AllZip R xs ys → AllByRecursion P xs
zip-all R P leads [] [] each = tt
zip-all R P leads [] (y ∷ ys) each = absurd each
zip-all R P leads (x ∷ xs) [] each = absurd each
zip-all R P leads (x ∷ xs) (y ∷ ys) each = (leads x y each.0, zip-all R P leads xs ys each.1)

zip-equal : {A : Type 0} (R : A → A → Type 0) → ((a b : A) → R a b → b ≡ a) → (xs ys : List A) → AllZip R xs ys → ys ≡ xs
zip-equal R leads [] [] each = refl
zip-equal R leads [] (y ∷ ys) each = absurd each
zip-equal R leads (x ∷ xs) [] each = absurd each
zip-equal {A = A} R leads (x ∷ xs) (y ∷ ys) each = ap (λ (a : A). a ∷ ys) (leads x y each.0) ∙ ap (λ (rest : List A). x ∷ rest) (zip-equal R leads xs ys each.1)

all-paired : {A : Type 0} (P Q : A → Type 0) (xs : List A) → AllByRecursion P xs → AllByRecursion Q xs → AllByRecursion (λ x. P x × Q x) xs
all-paired P Q [] first second = tt
all-paired P Q (x ∷ xs) first second = ((first.0, second.0), all-paired P Q xs first.1 second.1)

-- Logs.

-- the end of a log that has each number once
pub counts-end : (n end : ℕ) (rs : List Logged) → Counts n rs end → end ≡ n + length rs
counts-end n end [] counts = let none : List Logged = [] in let same : n ≡ n + length none = omega arith in sym counts ∙ same
counts-end n end (r ∷ rs) counts = let later : end ≡ (n + 1) + length rs = counts-end (n + 1) end rs counts.1 in omega (arith, later)

-- a log in which nothing is pending is settled
pub settled-same : (rs : List Logged) → pending rs ≡ [] → rs ≡ settled rs
unfolding settled
settled-same rs none =
    let nothing : rs ++ numbered (end_behind rs) (settle_said []) ≡ rs = append-nil rs in
    sym nothing ∙ ap (λ ws. rs ++ numbered (end_behind rs) (settle_said ws)) (sym none)

-- Media.

-- where the history is the same, and the media are, sets read the same
pub media-same : (old new : World) → new.instance ≡ old.instance → new.media ≡ old.media → new.history ≡ old.history → SameMedia old new
media-same old new instance media history = record { instance = instance; media = media; reads = λ path header there. ap (λ h. log_below h header.path header.last) history }

pub media-reflexive : (w : World) → SameMedia w w
media-reflexive w = media-same w w refl refl refl

-- a set stays on the same media
pub set-there : (old new : World) (path : List ℕ) (header : Header) → SameMedia old new → SetIn old path header → SetIn new path header
set-there old new path header same there = (there.0, ap (λ m. Rattle.bk_world.specs.Medium.medium_at m path) same.media ∙ there.1, there.2)

pub media-transitive : (a b c : World) → SameMedia a b → SameMedia b c → SameMedia a c
media-transitive a b c first second = record {
  instance = second.instance ∙ first.instance;
  media = second.media ∙ first.media;
  reads = λ path header there. second.reads path header (set-there a b path header first there) ∙ first.reads path header there;
}

pub media-symmetric : (a b : World) → SameMedia a b → SameMedia b a
media-symmetric a b same = record {
  instance = sym same.instance;
  media = sym same.media;
  reads = λ path header there. sym (same.reads path header (there.0, ap (λ m. Rattle.bk_world.specs.Medium.medium_at m path) (sym same.media) ∙ there.1, there.2));
}

-- Worlds.

-- where the history is the same, logs are
pub logs-same : (old new : World) → new.databases ≡ old.databases → new.history ≡ old.history → SameLogs old new
logs-same old new databases history = record { databases = databases; logs = each old.databases }
  where
    each : (dbs : List Database) → AllByRecursion (λ (db : Database). log_of new.history db ≡ log_of old.history db) dbs
    each [] = tt
    each (db ∷ dbs) = (ap (λ h. log_of h db) history, each dbs)

-- of the same logs the same are settled
pub settled-before : (w x v : World) → SameLogs w x → SameMedia w x → IsSettledTo w v → IsSettledTo x v
settled-before w x v logs media s = record {
  media = media-transitive x w v (media-symmetric w x media) s.media;
  databases = subst (λ dbs. AllZip (SettledTo x v) dbs v.databases) (sym logs.databases)
      (zip-first (λ (db : Database). log_of x.history db ≡ log_of w.history db) (SettledTo w v) (SettledTo x v)
      (λ old new same one. record { same = one.same; end = one.end; online = λ up. one.online up ∙ ap settled (sym same); offline = λ down. one.offline down ∙ sym same })
      w.databases v.databases logs.logs s.databases);
}

pub settled-behind : (w v x : World) → SameLogs v x → SameMedia v x → IsSettledTo w v → IsSettledTo w x
settled-behind w v x logs media s = record {
  media = media-transitive w v x s.media media;
  databases = subst (λ dbs. AllZip (SettledTo w x) w.databases dbs) (sym logs.databases)
      (zip-second (λ (db : Database). log_of x.history db ≡ log_of v.history db) (SettledTo w v) (SettledTo w x)
      (λ old new same one. record { same = one.same; end = one.end ∙ ap end_behind (sym same); online = λ up. same ∙ one.online up; offline = λ down. same ∙ one.offline down })
      w.databases v.databases logs.logs s.databases);
}

-- nothing is open in what it is settled to
pub settled-leaves-idle : (w v : World) → IsSettledTo w v → AreIdle v
settled-leaves-idle w v s = by w.databases v.databases s.databases
  where
    by : (olds news : List Database) → AllZip (SettledTo w v) olds news → AllByRecursion IsIdle news
    by [] [] each = tt
    by [] (new ∷ news) each = absurd each
    by (old ∷ olds) [] each = absurd each
    by (old ∷ olds) (new ∷ news) each = (subst IsIdle (sym each.0.same) (record { job = refl; transactions = refl }), by olds news each.1)

pub settled-opened : (w v : World) → IsSettledTo w v → IsSettledTo w (opened v)
unfolding opened
settled-opened w v s = settled-behind w v (opened v) (logs-same v (opened v) refl refl) (media-same v (opened v) refl refl refl) s

pub settled-restarted : (counter : ℕ) (w v : World) → IsSettledTo w v → IsSettledTo w (restarted counter v)
unfolding restarted
settled-restarted counter w v s = settled-behind w v (restarted counter v) (logs-same v (restarted counter v) refl refl) (media-same v (restarted counter v) refl refl refl) s

-- a database in which nothing is open
pub idle-is : (db : Database) → IsIdle db → db ≡ record db { job = None; transactions = [] }
idle-is db own = ap (λ j. record db { job = j }) own.job ∙ ap (λ ts. record db { job = None; transactions = ts }) own.transactions

record IsStill (w : World) (db : Database) : Type 0 where
  idle : IsIdle db
  whole : IsWholeDatabase w db
  opens : OpenBy w.history db

are-still : (w : World) → IsSound w → AreIdle w → AllByRecursion (IsStill w) w.databases
are-still w sound idle = by w.databases idle sound.whole.databases sound.opens
  where
    by : (dbs : List Database) → AllByRecursion IsIdle dbs → AllByRecursion (IsWholeDatabase w) dbs → AllByRecursion (OpenBy w.history) dbs → AllByRecursion (IsStill w) dbs
    by [] idle whole opens = tt
    by (db ∷ dbs) idle whole opens = (record { idle = idle.0; whole = whole.0; opens = opens.0 }, by dbs idle.1 whole.1 opens.1)

module _ (w : World) (db : Database) (is : IsStill w db) where
  still-settled : db.status ≡ Online → log_of w.history db ≡ settled (log_of w.history db)
  still-settled up =
      settled-same (log_of w.history db) (nothing-pends (log_of w.history db) db.end (subst (AreOpen (log_of w.history db) db.end) is.idle.transactions (is.opens.online up)))

  still-end : db.end ≡ end_behind (log_of w.history db)
  still-end = counts-end 1 db.end (log_of w.history db) is.whole.log.counts

  still-to : SettledTo w w db db
  still-to = record { same = idle-is db is.idle; end = still-end; online = still-settled; offline = λ down. refl }

  -- it stays as it is
  record Stays (v : World) (new : Database) : Type 0 where
    same : new ≡ db
    log : log_of v.history db ≡ log_of w.history db

  still-log : (v : World) (new : Database) → SettledTo w v db new → log_of v.history new ≡ log_of w.history db
  still-log v new one = by db.status refl
    where
      by : (s : Status) → db.status ≡ s → log_of v.history new ≡ log_of w.history db
      by Online up = one.online up ∙ sym (still-settled up)
      by (Standby file) down = one.offline (λ up. let wrong : Standby file ≡ Online = sym down ∙ up in absurd (cc))
      by Down down = one.offline (λ up. let wrong : Down ≡ Online = sym down ∙ up in absurd (cc))

  still-stays : (v : World) (new : Database) → SettledTo w v db new → Stays v new
  still-stays v new one =
      let log : log_of v.history new ≡ log_of w.history db = still-log v new one in
      let end : new.end ≡ db.end = one.end ∙ ap end_behind log ∙ sym still-end in
      let same : new ≡ db = one.same ∙ ap (λ n. record db { job = None; transactions = []; end = n }) end ∙ sym (idle-is db is.idle) in
      record { same = same; log = ap (log_of v.history) (sym same) ∙ log }

-- a sound world in which nothing is open is settled
pub settled-idle : (w : World) → IsSound w → AreIdle w → IsSettledTo w w
settled-idle w sound idle = record { media = media-reflexive w; databases = by w.databases (are-still w sound idle) }
  where
    by : (dbs : List Database) → AllByRecursion (IsStill w) dbs → AllZip (SettledTo w w) dbs dbs
    by [] all = tt
    by (db ∷ dbs) all = (still-to w db all.0, by dbs all.1)

-- and it has the databases and logs of each world that is settled to it
pub settled-ended : (w v : World) → IsSound w → AreIdle w → IsSettledTo w v → SameLogs w v
settled-ended w v sound idle s =
    let each : AllZip (λ (old new : Database). (new ≡ old) × (log_of v.history old ≡ log_of w.history old)) w.databases v.databases =
    zip-first (IsStill w) (SettledTo w v) (λ (old new : Database). (new ≡ old) × (log_of v.history old ≡ log_of w.history old))
    (λ old new is one. let stays : Stays w old is v new = still-stays w old is v new one in (stays.same, stays.log)) w.databases v.databases (are-still w sound idle) s.databases in record {
      databases = zip-equal (λ (old new : Database). (new ≡ old) × (log_of v.history old ≡ log_of w.history old)) (λ old new one. one.0) w.databases v.databases each;
      logs = zip-all (λ (old new : Database). (new ≡ old) × (log_of v.history old ≡ log_of w.history old)) (λ (db : Database). log_of v.history db ≡ log_of w.history db) (λ old new one. one.1) w.databases v.databases each;
    }

-- What needs to be settled.

pub needs-up : (history : RecordLines) (db : Database) → needs_settling history db ≡ true → db.status ≡ Online
needs-up history db needs = by db.status refl
  where
    by : (s : Status) → db.status ≡ s → db.status ≡ Online
    by Online up = up
    by (Standby file) down = absurd (let wrong : false ≡ true = sym (ap (λ s. is_online s && not (length db.transactions == 0 && length (pending (log_of history db)) == 0)) down) ∙ needs in cc)
    by Down down = absurd (let wrong : false ≡ true = sym (ap (λ s. is_online s && not (length db.transactions == 0 && length (pending (log_of history db)) == 0)) down) ∙ needs in cc)

-- one that is online and doesn't need it has nothing open and nothing pending
needs-nothing : (history : RecordLines) (db : Database) → db.status ≡ Online → needs_settling history db ≡ false → (db.transactions ≡ []) × (pending (log_of history db) ≡ [])
needs-nothing history db up none = by db.transactions (pending (log_of history db)) (sym (ap (λ s. is_online s && not (length db.transactions == 0 && length (pending (log_of history db)) == 0)) up) ∙ none)
  where
    by : (ts : List Open) (ws : List Pending) → not (length ts == 0 && length ws == 0) ≡ false → (ts ≡ []) × (ws ≡ [])
    by [] [] e = (refl, refl)
    by [] (w ∷ ws) e = let some : (length (w ∷ ws) == 0) ≡ false = grind (arith, nat_tests) in absurd (let wrong : true ≡ false = sym (ap (λ b. not b) some) ∙ e in cc)
    by (t ∷ ts) ws e = let some : (length (t ∷ ts) == 0) ≡ false = grind (arith, nat_tests) in absurd (let wrong : true ≡ false = sym (ap (λ b. not (b && length ws == 0)) some) ∙ e in cc)

needs-open : (w : World) (db : Database) → OpenBy w.history db → needs_settling w.history db ≡ false → db.transactions ≡ []
needs-open w db opens none = by db.status refl
  where
    by : (s : Status) → db.status ≡ s → db.transactions ≡ []
    by Online up = (needs-nothing w.history db up none).0
    by (Standby file) down = (opens.offline (λ up. let wrong : Standby file ≡ Online = sym down ∙ up in absurd (cc))).transactions
    by Down down = (opens.offline (λ up. let wrong : Down ≡ Online = sym down ∙ up in absurd (cc))).transactions

pub needs-closed : (w : World) → IsSound w → AllByRecursion (λ (db : Database). needs_settling w.history db ≡ false → db.transactions ≡ []) w.databases
needs-closed w sound = all_mapped (OpenBy w.history) (λ (db : Database). needs_settling w.history db ≡ false → db.transactions ≡ []) (needs-open w) w.databases sound.opens

pub needs-pends : (history : RecordLines) (db : Database) → db.status ≡ Online → needs_settling history db ≡ false → pending (log_of history db) ≡ []
needs-pends history db up none = (needs-nothing history db up none).1
