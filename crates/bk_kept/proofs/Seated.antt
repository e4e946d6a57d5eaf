-- Sessions that are kept, and those of the world.
use Rattle.std.proofs.Common.{◌≡◌, ◌<◌, ◌+◌, ℕ, zero, suc, Bool, true, false, cond, List, [], ◌∷◌, ◌++◌, map, length, get_or, Option, Some, None, Result, Ok, Err, refl, sym, ◌∙◌, ap, arith, ltb, Bor}
use Rattle.std.specs.List.{find, position, position_or_len}
use Rattle.std.specs.Option.{option_map}
use Rattle.std.specs.Prelude.{◌==◌, set, OnErr}
use Rattle.std.proofs.lemmas.Bool.{lt-ltb}
use Rattle.std.proofs.lemmas.Bool.Decides.{nat_tests}
use Rattle.std.proofs.lemmas.List.Quantifiers.{position-Some}
use Rattle.bk_machine.specs.Acts.{turned, seated, done}
use Rattle.bk_machine.specs.World.{Session, World, current_name, session_numbered, with_session}
use Rattle.bk_kept.specs.declared.kept.Kept.{Kept}
use Rattle.bk_kept.specs.declared.kept.Session.{Session as KeptSession}
use Rattle.bk_kept.specs.Keeps.{Keeps, Sees, session_of}

-- the test for a number
abbrev pub seats : ℕ → KeptSession → Bool
seats n s = s.number == n

-- a session's number is the one that it is asked for by
numbered-so : (ss : List Session) (n : ℕ) → (session_numbered ss n).number ≡ n
numbered-so [] n = refl
numbered-so (s ∷ ss) n = by (s.number == n) refl (numbered-so ss n)
  where
    by : (t : Bool) → (s.number == n) ≡ t → (session_numbered ss n).number ≡ n → (cond t s (session_numbered ss n)).number ≡ n
    by true is later = grind (arith, nat_tests, is)
    by false isnt later = later

-- what there is to say of a session changes, but not its number
module _ (n : ℕ) (change : Session → Session) (stays : (s : Session) → (change s).number ≡ s.number) where
  -- behind one of another number
  behind : (s : KeptSession) (ss : List KeptSession) → (s.number == n) ≡ false
      → with_session (map session_of (s ∷ ss)) (change (session_numbered (map session_of (s ∷ ss)) n)) ≡ session_of s ∷ with_session (map session_of ss) (change (session_numbered (map session_of ss) n))
  behind s ss other =
      let put : Session = change (session_numbered (map session_of ss) n) in
      let called : put.number ≡ n = stays (session_numbered (map session_of ss) n) ∙ numbered-so (map session_of ss) n in
      let test : (s.number == put.number) ≡ false = ap (λ k. s.number == k) called ∙ other in
      ap (λ t. with_session (session_of s ∷ map session_of ss) (change (cond t (session_of s) (session_numbered (map session_of ss) n)))) other
      ∙ ap (λ t. cond t (put ∷ map session_of ss) (session_of s ∷ with_session (map session_of ss) put)) test

  -- and at its place, where what is kept of it changes in the same way
  with-here : (new : KeptSession → KeptSession) → ((s : KeptSession) → session_of (new s) ≡ change (session_of s)) → (ss : List KeptSession) (i : ℕ) (x : KeptSession) → i < length ss → seats n (get_or ss i x) ≡ true
      → ((k : ℕ) → k < i → seats n (get_or ss k x) ≡ false) → map session_of (set ss i (new (get_or ss i x))) ≡ with_session (map session_of ss) (change (session_numbered (map session_of ss) n))
  with-here new is [] i x lt here before = absurd (omega (arith, lt))
  with-here new is (s ∷ ss) zero x lt here before =
      let own : (s.number == n) ≡ true = here in
      let put : Session = change (session_of s) in
      let called : put.number ≡ s.number = stays (session_of s) in
      let test : (s.number == put.number) ≡ true = grind (arith, nat_tests, called) in
      ap (λ (v : Session). v ∷ map session_of ss) (is s)
      ∙ sym (ap (λ t. cond t (put ∷ map session_of ss) (session_of s ∷ with_session (map session_of ss) put)) test)
      ∙ sym (ap (λ t. with_session (session_of s ∷ map session_of ss) (change (cond t (session_of s) (session_numbered (map session_of ss) n)))) own)
  with-here new is (s ∷ ss) (suc i) x lt here before =
      ap (λ (vs : List Session). session_of s ∷ vs) (with-here new is ss i x (omega (arith, lt)) here (λ k h. before (suc k) (omega (arith, h)))) ∙ sym (behind s ss (before 0 (omega arith)))

  pub with-at : (new : KeptSession → KeptSession) → ((s : KeptSession) → session_of (new s) ≡ change (session_of s)) → (ss : List KeptSession) (i : ℕ) (x : KeptSession) → position (seats n) ss ≡ Some i → x ≡ get_or ss i x
      → map session_of (set ss i (new x)) ≡ with_session (map session_of ss) (change (session_numbered (map session_of ss) n))
  with-at new is ss i x place at =
      let found = position-Some (seats n) ss i x place in
      ap (λ (s : KeptSession). map session_of (set ss i (new s))) at ∙ with-here new is ss i x found.0 found.1 found.2

none-rest : (p : KeptSession → Bool) (s : KeptSession) (ss : List KeptSession) → p s ≡ false → position p (s ∷ ss) ≡ None → position p ss ≡ None
none-rest p s ss other none = later (ltb (position_or_len p ss) (length ss)) refl (rw other at none)
  where
    later : (t : Bool) → ltb (position_or_len p ss) (length ss) ≡ t → cond (ltb (1 + position_or_len p ss) (suc (length ss))) (Some (1 + position_or_len p ss)) None ≡ None
        → cond t (Some (position_or_len p ss)) None ≡ None
    later false e n = refl
    later true e n =
        let more : ltb (1 + position_or_len p ss) (suc (length ss)) ≡ true = grind (arith, nat_tests, e) in
        let found : Some (1 + position_or_len p ss) ≡ None = sym (ap (λ t. cond t (Some (1 + position_or_len p ss)) None) more) ∙ n in
        absurd (cc (found))

none-here : (p : KeptSession → Bool) (s : KeptSession) (ss : List KeptSession) → position p (s ∷ ss) ≡ None → p s ≡ false
none-here p s ss none = by (p s) refl
  where
    by : (t : Bool) → p s ≡ t → p s ≡ false
    by false e = e
    by true e =
        let first : ltb 0 (suc (length ss)) ≡ true = lt-ltb _ _ (omega arith) in
        let found : Some 0 ≡ None = sym (ap (λ t. cond t (Some 0) None) first) ∙ (rw e at none) in
        absurd (cc (found))

-- a session of which there was nothing to say
abbrev pub first_said : ℕ → Session
first_said n = record { number = n; current = None; starts = false }

pub with-none : (n : ℕ) (change : Session → Session) (stays : (s : Session) → (change s).number ≡ s.number) (ss : List KeptSession) (new : KeptSession) → session_of new ≡ change (first_said n) → position (seats n) ss ≡ None
    → map session_of (ss ++ new ∷ []) ≡ with_session (map session_of ss) (change (session_numbered (map session_of ss) n))
with-none n change stays [] new is none = ap (λ (v : Session). v ∷ []) is
with-none n change stays (s ∷ ss) new is none =
    let other : (s.number == n) ≡ false = none-here (seats n) s ss none in
    ap (λ (vs : List Session). session_of s ∷ vs) (with-none n change stays ss new is (none-rest (seats n) s ss other none)) ∙ sym (behind n change stays s ss other)

-- what is kept behind an act on sessions

pub keeps-turned : (w : World) (k new : Kept) (name : Option (List ℕ)) → Keeps w k → new.number ≡ k.number → new.counter ≡ k.counter → new.session ≡ k.session → new.databases ≡ k.databases
    → map session_of new.sessions.items ≡ with_session (map session_of k.sessions.items) (record (session_numbered (map session_of k.sessions.items) k.session) { current = name }) → Keeps (done w (turned name)) new
unfolding done
keeps-turned w k new name keeps number counter session databases sessions = record {
  number = keeps.number ∙ sym number;
  counter = keeps.counter ∙ sym counter;
  session = keeps.session ∙ sym session;
  sessions =
      ap (λ ss. with_session ss (record (session_numbered ss w.session) { current = name })) keeps.sessions
      ∙ ap (λ n. with_session (map session_of k.sessions.items) (record (session_numbered (map session_of k.sessions.items) n) { current = name })) keeps.session
      ∙ sym sessions;
  databases = rw databases keeps.databases;
  kept = rw databases keeps.kept;
}

pub keeps-left : (w : World) (k new : Kept) → new.number ≡ k.number → new.counter ≡ k.counter → new.session ≡ k.session → new.databases ≡ k.databases → new.sessions.items ≡ k.sessions.items → Keeps w k → Keeps w new
keeps-left w k new number counter session databases sessions keeps = record {
  number = keeps.number ∙ sym number;
  counter = keeps.counter ∙ sym counter;
  session = keeps.session ∙ sym session;
  sessions = keeps.sessions ∙ sym (ap (map session_of) sessions);
  databases = rw databases keeps.databases;
  kept = rw databases keeps.kept;
}

-- what follows from what holds where there is none
pub on-err : {A E P Q : Type 0} (r : Result A E) → OnErr r P → (P → Q) → OnErr r Q
on-err (Ok x) holds next = tt
on-err (Err e) holds next = next holds

pub keeps-seated : (w : World) (k : Kept) (session : ℕ) → Keeps w k → Keeps (done w (seated session)) (record k { session = session })
unfolding done
keeps-seated w k session keeps = record { number = keeps.number; counter = keeps.counter; session = refl; sessions = keeps.sessions; databases = keeps.databases; kept = keeps.kept }

-- the current session

-- the name of a session that may be there
abbrev pub name_in : Option KeptSession → Option (List ℕ)
name_in None = None
name_in (Some s) = s.current

first-seat : (ss : List KeptSession) (n : ℕ) → name_in (find (seats n) ss) ≡ (session_numbered (map session_of ss) n).current
first-seat [] n = refl
first-seat (s ∷ ss) n = by (s.number == n) (first-seat ss n)
  where
    by : (t : Bool) → name_in (find (seats n) ss) ≡ (session_numbered (map session_of ss) n).current
        → name_in (cond t (Some s) (find (seats n) ss)) ≡ (cond t (session_of s) (session_numbered (map session_of ss) n)).current
    by true later = refl
    by false later = later

pub name-is : (w : World) (k : Kept) (found : Option (Bor KeptSession)) → option_map (λ s. s.now) found ≡ find (seats k.session) k.sessions.items → Sees w k
    → name_in (option_map (λ s. s.now) found) ≡ current_name w
name-is w k found is sees =
    ap name_in is ∙ first-seat k.sessions.items k.session
    ∙ sym (ap (λ ss. (session_numbered ss w.session).current) sees.sessions ∙ ap (λ n. (session_numbered (map session_of k.sessions.items) n).current) sees.session)

-- whether the next backup of a session that may be there only starts
abbrev pub starts_in : Option KeptSession → Bool
starts_in None = false
starts_in (Some s) = s.starts

first-starts : (ss : List KeptSession) (n : ℕ) → starts_in (find (seats n) ss) ≡ (session_numbered (map session_of ss) n).starts
first-starts [] n = refl
first-starts (s ∷ ss) n = by (s.number == n) (first-starts ss n)
  where
    by : (t : Bool) → starts_in (find (seats n) ss) ≡ (session_numbered (map session_of ss) n).starts
        → starts_in (cond t (Some s) (find (seats n) ss)) ≡ (cond t (session_of s) (session_numbered (map session_of ss) n)).starts
    by true later = refl
    by false later = later

pub starts-is : (w : World) (k : Kept) (found : Option (Bor KeptSession)) → option_map (λ s. s.now) found ≡ find (seats k.session) k.sessions.items → Sees w k
    → starts_in (option_map (λ s. s.now) found) ≡ (session_numbered w.sessions w.session).starts
starts-is w k found is sees =
    ap starts_in is ∙ first-starts k.sessions.items k.session
    ∙ sym (ap (λ ss. (session_numbered ss w.session).starts) sees.sessions ∙ ap (λ n. (session_numbered (map session_of k.sessions.items) n).starts) sees.session)
