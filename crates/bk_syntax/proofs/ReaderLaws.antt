-- What a reader has before it, step by step.
use Rattle.std.proofs.Common.{◌≡◌, ℕ, ◌-◌, ◌*◌, ◌<◌, ◌≤◌, true, false, List, [], ◌∷◌, ◌++◌, length, take, drop, Some, arith, refl, ap, subst, sym, ◌∙◌, length-append, append-nil, append_assoc, length-drop, get_or, Result, Ok, Err}
use Rattle.std.specs.Prelude.{IfOk}
use Rattle.std.specs.declared.alloc.AllocError.{AllocError}
use Rattle.std.proofs.Math.ListN.{drop_of_length-le}
use Rattle.bk_token.specs.Laws.{none_left}
use Rattle.bk_token.specs.Places.{IsPlace, AreTokensAt, IsNext}
use Rattle.bk_token.specs.Tokens.{AreTokensFrom, ended as no_tokens}
use Rattle.bk_token.specs.declared.place.Place.{Place}
use Rattle.bk_token.specs.declared.token.Token.{Token}
use Rattle.bk_items.specs.declared.item.ScriptItem.{ScriptItem}
use Rattle.bk_items.specs.declared.item.ScriptItem.TheVariants.{Syntax}
use Rattle.bk_items.specs.declared.item.ScriptEntry.{ScriptEntry}
use Rattle.bk_syntax.specs.Items.{AreEntries, AreItems, from_place}
use Rattle.bk_syntax.specs.Limits.{ends, recovered}
use Rattle.bk_syntax.specs.Reader.{ahead, IsReader, HasTokens, HasItems, GivesItem, work, ReadsOn, Fills, IsInFront, Passes, Recovers}
use Rattle.bk_syntax.specs.Statement.{next_colon}
use Rattle.bk_syntax.specs.declared.front.Front.{Front}
use Rattle.bk_syntax.specs.declared.front.Front.TheVariants.{Wants, Read, Stuck}
use Rattle.bk_syntax.specs.declared.reader.Reader.{Reader}
use Rattle.bk_syntax.proofs.ItemsLaw.{passed_end, none_left as no_entries}

-- ---- reading on

pub reads_none : (src : List ℕ) (p : Place) (ts : List Token) → IsPlace src p → ReadsOn src p ts p ts
reads_none src p ts place = record { read = []; added = sym (append-nil ts); others = λ later at. (later, refl, at); moved = omega arith; place = place }

pub reads_one : (src : List ℕ) (old p q : Place) (before ts : List Token) (t : Token) → ReadsOn src old before p ts → IsPlace src q → ((later : List Token) → AreTokensAt src p later → IsNext src (Some t) later q) → p.at < q.at →
    ReadsOn src old before q (ts ++ t ∷ [])
reads_one src old p q before ts t so_far place next moves = record {
  read = so_far.read ++ t ∷ [];
  added = ap (λ l. l ++ t ∷ []) so_far.added ∙ append_assoc before so_far.read (t ∷ []);
  others = λ later at.
      let rest = so_far.others later at in
      let behind = next rest.0 rest.2 in
      (behind.0, rest.1 ∙ ap (λ l. so_far.read ++ l) behind.1 ∙ sym (append_assoc so_far.read (t ∷ []) behind.0), behind.2);
  moved = omega (arith, so_far.moved, moves, length-append so_far.read (t ∷ []));
  place = place;
}

-- at the end of the script
pub reads_over : (src : List ℕ) (old p q : Place) (before ts : List Token) → ReadsOn src old before p ts → IsPlace src q → ((later : List Token) → AreTokensAt src p later → later ≡ []) → length src ≤ q.at →
    ReadsOn src old before q ts
reads_over src old p q before ts so_far place none over = record {
  read = so_far.read;
  added = so_far.added;
  others = λ later at.
      let rest = so_far.others later at in
      let bytes : drop q.at src ≡ [] = drop_of_length-le src over in
      let at_end : AreTokensFrom (take q.at src) (drop q.at src) [] = rw bytes no_tokens in
      ([], rest.1 ∙ ap (λ l. so_far.read ++ l) (none rest.0 rest.2), at_end);
  moved = omega (arith, so_far.moved, so_far.place.within, over);
  place = place;
}

-- ---- the reader

pub fills_none : (src : List ℕ) (r : Reader) → IsReader src r → Fills src r r
fills_none src r is = record { reader = is; read = []; added = sym (append-nil (ahead r)); same = λ ts has. has; less = omega arith }

pub fills_more : (src : List ℕ) (a b c : Reader) → Fills src a b → Fills src b c → Fills src a c
fills_more src a b c f g = record {
  reader = g.reader;
  read = f.read ++ g.read;
  added = g.added ∙ ap (λ l. l ++ g.read) f.added ∙ append_assoc (ahead a) f.read g.read;
  same = λ ts has. g.same ts (f.same ts has);
  less = omega (arith, f.less, g.less);
}

pub fills_by : (src : List ℕ) (old new : Reader) → IsReader src old → ReadsOn src old.place (ahead old) new.place (ahead new) → new.from ≤ length new.tokens.items → Fills src old new
fills_by src old new is reads within = record {
  reader = record { within = within; place = reads.place };
  read = reads.read;
  added = reads.added;
  same = λ ts has.
      let rest = reads.others has.0 has.2 in
      (rest.0, has.1 ∙ ap (λ l. ahead old ++ l) rest.1 ∙ sym (append_assoc (ahead old) reads.read rest.0) ∙ ap (λ l. l ++ rest.0) (sym reads.added), rest.2);
  less = omega (arith, reads.moved, reads.place.within, ap length reads.added, length-append (ahead old) reads.read);
}

-- ---- tokens in front

head_stays : (src : List ℕ) (a b : Reader) (t : Token) (others : List Token) → Fills src a b → ahead a ≡ t ∷ others → (more : List Token) × (ahead b ≡ t ∷ more)
head_stays src a b t others f e = (others ++ f.read, f.added ∙ ap (λ l. l ++ f.read) e)

pub first_stays : (src : List ℕ) (a b : Reader) (t : Token) → Fills src a b → ((others : List Token) × (ahead a ≡ t ∷ others)) → (more : List Token) × (ahead b ≡ t ∷ more)
first_stays src a b t f first = head_stays src a b t first.0 f first.1

-- of no tokens and no others there are none
empty : (ts later all : List Token) → length ts ≡ 0 → later ≡ [] → all ≡ ts ++ later → all ≡ []
empty [] later all none e is = is ∙ e
empty (t ∷ ts) later all none e is = absurd (omega arith)

-- the first of some tokens
pub head_of : (ts us : List Token) (d : Token) → 1 ≤ length ts → ts ≡ us → (others : List Token) × (us ≡ get_or ts 0 d ∷ others)
head_of [] us d some e = absurd (omega arith)
head_of (t ∷ ts) us d some e = (ts, sym e)

-- nothing is read ahead, and the script is over
pub nothing_there : (src : List ℕ) (a b : Reader) → Fills src a b → length (ahead b) ≡ 0 → length src ≤ b.place.at → (ts : List Token) → HasTokens src a ts → ts ≡ []
nothing_there src a b f none over ts has =
    let b_has = f.same ts has in
    empty (ahead b) b_has.0 ts none (none_left src b.place b_has.0 over b_has.2) b_has.1

-- behind the first token
pub one_passed : (src : List ℕ) (a b : Reader) (t : Token) (others : List Token) → ahead a ≡ t ∷ others → ahead b ≡ drop 1 (ahead a) → b.place ≡ a.place → (ts : List Token) → HasTokens src a ts →
    (rest : List Token) × (ts ≡ t ∷ rest) × HasTokens src b rest
one_passed src a b t others e d p ts has =
    let behind : ahead b ≡ others = d ∙ ap (drop 1) e in
    let P : Place → Type 0 = λ q. AreTokensAt src q has.0 in
    (others ++ has.0, has.1 ∙ ap (λ l. l ++ has.0) e, (has.0, ap (λ l. l ++ has.0) (sym behind), subst P (sym p) has.2))

pub less_passed : (src : List ℕ) (a b : Reader) (t : Token) (others : List Token) → ahead a ≡ t ∷ others → ahead b ≡ drop 1 (ahead a) → b.place ≡ a.place → work src b < work src a
less_passed src a b t others e d p = omega (arith, ap length e, ap length (d ∙ ap (drop 1) e), ap (λ q. 2 * (length src - q.at)) p)

pub reader_passed : (src : List ℕ) (a b : Reader) → IsReader src a → b.from ≤ length b.tokens.items → b.place ≡ a.place → IsReader src b
reader_passed src a b is within p = record { within = within; place = subst (IsPlace src) (sym p) is.place }

-- ---- ends of statements

pub passes_none : (src : List ℕ) (r : Reader) → IsReader src r → Passes src r r
passes_none src r is = record { reader = is; same = λ es has. has; less = omega arith }

has_filled : (src : List ℕ) (a b : Reader) → Fills src a b → (es : List ScriptEntry) → HasItems src a es → HasItems src b es
has_filled src a b f es (ts, has, entries) = (ts, f.same ts has, entries)

pub passes_filled : (src : List ℕ) (a b c : Reader) → Passes src a b → Fills src b c → Passes src a c
passes_filled src a b c p f = record { reader = f.reader; same = λ es has. has_filled src b c f es (p.same es has); less = omega (arith, p.less, f.less) }

end_behind : (src : List ℕ) (a b : Reader) (t : Token) (others : List Token) → ends t.kind ≡ true → ahead a ≡ t ∷ others → ahead b ≡ drop 1 (ahead a) → b.place ≡ a.place → (es : List ScriptEntry) → HasItems src a es → HasItems src b es
end_behind src a b t others e first d p es (ts, has, entries) =
    let behind = one_passed src a b t others first d p ts has in
    (behind.0, behind.2, passed_end src t behind.0 es e (subst (λ l. AreEntries src l es) behind.1 entries))

pub passes_end : (src : List ℕ) (a b c : Reader) (t : Token) → Passes src a b → ends t.kind ≡ true → ((others : List Token) × (ahead b ≡ t ∷ others)) → ahead c ≡ drop 1 (ahead b) → c.place ≡ b.place →
    c.from ≤ length c.tokens.items → Passes src a c
passes_end src a b c t passes e first d p within = record {
  reader = reader_passed src b c passes.reader within p;
  same = λ es has. end_behind src b c t first.0 e first.1 d p es (passes.same es has);
  less = omega (arith, passes.less, less_passed src b c t first.0 first.1 d p);
}

no_items : (src : List ℕ) (r : Reader) → ((ts : List Token) → HasTokens src r ts → ts ≡ []) → (es : List ScriptEntry) → HasItems src r es → es ≡ []
no_items src r none es (ts, has, entries) = no_entries src es (subst (λ l. AreEntries src l es) (none ts has) entries)

pub none_begun : (src : List ℕ) (a b : Reader) → Passes src a b → ((ts : List Token) → HasTokens src b ts → ts ≡ []) → (es : List ScriptEntry) → HasItems src a es → es ≡ []
none_begun src a b passes none es has = no_items src b none es (passes.same es has)

-- ---- behind a fault

-- so far: reading goes on at the same place
pub record Recovering (src : List ℕ) (old now : Reader) : Type 0 where
  pub reader : IsReader src now
  pub same : (ts : List Token) → HasTokens src old ts → (rest : List Token) × (recovered ts ≡ recovered rest) × HasTokens src now rest
  pub less : work src now ≤ work src old

pub recovering_none : (src : List ℕ) (r : Reader) → IsReader src r → Recovering src r r
recovering_none src r is = record { reader = is; same = λ ts has. (ts, refl, has); less = omega arith }

pub recovering_filled : (src : List ℕ) (a b c : Reader) → Recovering src a b → Fills src b c → Recovering src a c
recovering_filled src a b c r f = record {
  reader = f.reader;
  same = λ ts has. let rest = r.same ts has in (rest.0, rest.1, f.same rest.0 rest.2);
  less = omega (arith, r.less, f.less);
}

recovered_end : (t : Token) (ts : List Token) → ends t.kind ≡ true → recovered (t ∷ ts) ≡ ts
recovered_end t ts e = rw e refl

recovered_colon : (t : Token) (ts : List Token) → ends t.kind ≡ false → next_colon (t ∷ ts) ≡ true → recovered (t ∷ ts) ≡ t ∷ ts
recovered_colon t ts e c = rw (e, c) refl

recovered_other : (t : Token) (ts : List Token) → ends t.kind ≡ false → next_colon (t ∷ ts) ≡ false → recovered (t ∷ ts) ≡ recovered ts
recovered_other t ts e c = rw (e, c) refl

pub recovering_other : (src : List ℕ) (a b c : Reader) (t : Token) → Recovering src a b → ends t.kind ≡ false → next_colon (t ∷ []) ≡ false → ((others : List Token) × (ahead b ≡ t ∷ others)) → ahead c ≡ drop 1 (ahead b) →
    c.place ≡ b.place → c.from ≤ length c.tokens.items → Recovering src a c
recovering_other src a b c t r e n first d p within = record {
  reader = reader_passed src b c r.reader within p;
  same = λ ts has.
      let rest = r.same ts has in
      let behind = one_passed src b c t first.0 first.1 d p rest.0 rest.2 in
      (behind.0, rest.1 ∙ ap recovered behind.1 ∙ recovered_other t behind.0 e n, behind.2);
  less = omega (arith, r.less, less_passed src b c t first.0 first.1 d p);
}

pub recovers_end : (src : List ℕ) (a b c : Reader) (t : Token) → Recovering src a b → ends t.kind ≡ true → ((others : List Token) × (ahead b ≡ t ∷ others)) → ahead c ≡ drop 1 (ahead b) → c.place ≡ b.place →
    c.from ≤ length c.tokens.items → Recovers src a c
recovers_end src a b c t r e first d p within = record {
  reader = reader_passed src b c r.reader within p;
  there = λ ts has.
      let rest = r.same ts has in
      let behind = one_passed src b c t first.0 first.1 d p rest.0 rest.2 in
      let there : recovered ts ≡ behind.0 = rest.1 ∙ ap recovered behind.1 ∙ recovered_end t behind.0 e in
      subst (HasTokens src c) (sym there) behind.2;
  less = omega (arith, r.less, less_passed src b c t first.0 first.1 d p);
}

pub recovers_colon : (src : List ℕ) (a b : Reader) (t : Token) → Recovering src a b → ends t.kind ≡ false → next_colon (t ∷ []) ≡ true → ((others : List Token) × (ahead b ≡ t ∷ others)) → Recovers src a b
recovers_colon src a b t r e n first = record {
  reader = r.reader;
  there = λ ts has.
      let rest = r.same ts has in
      let whole : rest.0 ≡ t ∷ (first.0 ++ rest.2.0) = rest.2.1 ∙ ap (λ l. l ++ rest.2.0) first.1 in
      let there : recovered ts ≡ rest.0 = rest.1 ∙ ap recovered whole ∙ recovered_colon t (first.0 ++ rest.2.0) e n ∙ sym whole in
      subst (HasTokens src b) (sym there) rest.2;
  less = r.less;
}

pub recovers_over : (src : List ℕ) (a b : Reader) → Recovering src a b → ((ts : List Token) → HasTokens src b ts → ts ≡ []) → Recovers src a b
recovers_over src a b r none = record {
  reader = r.reader;
  there = λ ts has.
      let rest = r.same ts has in
      let over : rest.0 ≡ [] = none rest.0 rest.2 in
      let there : recovered ts ≡ rest.0 = rest.1 ∙ ap recovered over ∙ sym over in
      subst (HasTokens src b) (sym there) rest.2;
  less = r.less;
}

pub recovers_filled : (src : List ℕ) (a b c : Reader) → Recovers src a b → Fills src b c → Recovers src a c
recovers_filled src a b c r f = record { reader = f.reader; there = λ ts has. f.same (recovered ts) (r.there ts has); less = omega (arith, r.less, f.less) }

-- ---- an item in front

-- what may follow is less, and more is wanted no longer
pub front_there : (src : List ℕ) (line : ℕ) (ts : List Token) (p : Place) (front : Front) → length src ≤ p.at → IsInFront src line ts (λ more. true ≡ true → more ≡ []) (true ≡ false) front →
    IsInFront src line ts (AreTokensAt src p) ⊥ front
front_there src line ts p Wants over is = (cc)
front_there src line ts p (Read item left) over is = (is.0, λ more at. is.1 more (λ e. none_left src p more over at))
front_there src line ts p (Stuck left there) over is = (is.0, λ more at. is.1 more (λ e. none_left src p more over at))

pub front_if : (src : List ℕ) (line : ℕ) (ts us : List Token) (p : Place) (r : Result Front AllocError) → length src ≤ p.at → ts ≡ us → IfOk r (IsInFront src line ts (λ more. true ≡ true → more ≡ []) (true ≡ false)) →
    IfOk r (IsInFront src line us (AreTokensAt src p) ⊥)
front_if src line ts us p (Ok front) over e is = subst (λ l. IsInFront src line l (AreTokensAt src p) ⊥ front) e (front_there src line ts p front over is)
front_if src line ts us p (Err error) over e is = tt

left_tokens : (src : List ℕ) (a b : Reader) (left : ℕ) → ahead b ≡ from_place left (ahead a) → b.place ≡ a.place → (ts : List Token) (has : HasTokens src a ts) → HasTokens src b (from_place left (ahead a) ++ has.0)
left_tokens src a b left d p ts has =
    let P : Place → Type 0 = λ q. AreTokensAt src q has.0 in
    (has.0, ap (λ l. l ++ has.0) (sym d), subst P (sym p) has.2)

left_work : (src : List ℕ) (a b : Reader) (left : ℕ) → ahead b ≡ from_place left (ahead a) → b.place ≡ a.place → left < length (ahead a) → work src b < work src a
left_work src a b left d p some = omega (arith, ap length d, length-drop (length (ahead a) - left) (ahead a), ap (λ q. 2 * (length src - q.at)) p, some)

-- the item that stands in front, and the others behind it
gives_at : (src : List ℕ) (c d : Reader) (line left : ℕ) (item : ScriptItem) → IsInFront src line (ahead c) (AreTokensAt src c.place) ⊥ (Read item left) → ahead d ≡ from_place left (ahead c) → d.place ≡ c.place →
    (es : List ScriptEntry) → HasItems src c es → GivesItem src (Some (record { item = item; line = line })) es d
gives_at src c d line left item front e p es (ts, has, entries) =
    let found = front.1 has.0 has.2 es (subst (λ l. AreEntries src l es) has.1 entries) in
    (found.0, found.1, (from_place left (ahead c) ++ has.0, left_tokens src c d left e p ts has, found.2))

stuck_at : (src : List ℕ) (c d r : Reader) (line left there : ℕ) → IsInFront src line (ahead c) (AreTokensAt src c.place) ⊥ (Stuck left there) → ahead d ≡ from_place left (ahead c) → d.place ≡ c.place → Recovers src d r →
    (es : List ScriptEntry) → HasItems src c es → GivesItem src (Some (record { item = Syntax there; line = line })) es r
stuck_at src c d r line left there front e p recovers es (ts, has, entries) =
    let found = front.1 has.0 has.2 es (subst (λ l. AreEntries src l es) has.1 entries) in
    let tokens = from_place left (ahead c) ++ has.0 in
    (found.0, found.1, (recovered tokens, recovers.there tokens (left_tokens src c d left e p ts has), found.2))

pub gives_read : (src : List ℕ) (a b c d : Reader) (line left : ℕ) (item : ScriptItem) → Passes src a b → Fills src b c → IsInFront src line (ahead c) (AreTokensAt src c.place) ⊥ (Read item left) →
    ahead d ≡ from_place left (ahead c) → d.place ≡ c.place → (es : List ScriptEntry) → HasItems src a es → GivesItem src (Some (record { item = item; line = line })) es d
gives_read src a b c d line left item passes fills front e p es has =
    let b_has = passes.same es has in
    gives_at src c d line left item front e p es (has_filled src b c fills es b_has)

pub gives_stuck : (src : List ℕ) (a b c d e : Reader) (line left there : ℕ) → Passes src a b → Fills src b c → IsInFront src line (ahead c) (AreTokensAt src c.place) ⊥ (Stuck left there) →
    ahead d ≡ from_place left (ahead c) → d.place ≡ c.place → Recovers src d e → (es : List ScriptEntry) → HasItems src a es → GivesItem src (Some (record { item = Syntax there; line = line })) es e
gives_stuck src a b c d e line left there passes fills front at p recovers es has =
    let b_has = passes.same es has in
    stuck_at src c d e line left there front at p recovers es (has_filled src b c fills es b_has)

pub less_read : (src : List ℕ) (a b c d : Reader) (left : ℕ) → Passes src a b → Fills src b c → left < length (ahead c) → ahead d ≡ from_place left (ahead c) → d.place ≡ c.place → work src d < work src a
less_read src a b c d left passes fills some e p = omega (arith, passes.less, fills.less, left_work src c d left e p some)

-- ---- all items

-- these items were read, and the reader has the others before it
pub record ReadSoFar (src : List ℕ) (r : Reader) (found : List ScriptEntry) : Type 0 where
  pub reader : IsReader src r
  pub left : (es : List ScriptEntry) → AreItems src es → (rest : List ScriptEntry) × (es ≡ found ++ rest) × HasItems src r rest

pub read_none : (src : List ℕ) (r : Reader) → IsReader src r → ((es : List ScriptEntry) → AreItems src es → HasItems src r es) → ReadSoFar src r []
read_none src r is has = record { reader = is; left = λ es items. (es, refl, has es items) }

pub read_more : (src : List ℕ) (a b : Reader) (found : List ScriptEntry) (e : ScriptEntry) → ReadSoFar src a found → IsReader src b → ((es : List ScriptEntry) → HasItems src a es → GivesItem src (Some e) es b) →
    ReadSoFar src b (found ++ e ∷ [])
read_more src a b found e so_far is gives = record {
  reader = is;
  left = λ es items.
      let rest = so_far.left es items in
      let given = gives rest.0 rest.2 in
      (given.0, rest.1 ∙ ap (λ l. found ++ l) given.1 ∙ sym (append_assoc found (e ∷ []) given.0), given.2);
}

pub all_read : (src : List ℕ) (a : Reader) (found es : List ScriptEntry) → ReadSoFar src a found → ((rest : List ScriptEntry) → HasItems src a rest → rest ≡ []) → AreItems src es → AreItems src found
all_read src a found es so_far over items =
    let rest = so_far.left es items in
    let same : es ≡ found = rest.1 ∙ ap (λ l. found ++ l) (over rest.0 rest.2) ∙ append-nil found in
    subst (AreItems src) same items
