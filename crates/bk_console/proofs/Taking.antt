-- What one word more means, by what was given.
use Rattle.std.proofs.Common.{◌≡◌, ℕ, ◌<◌, ◌^◌, ◌≢◌, Bool, true, false, ◌&&◌, nat_lt, nat_le, nat_eq, if◌then◌else◌, List, [], ◌∷◌, length, get_or, Option, Some, None, Result, Ok, Err, refl, sym, ◌∙◌, ap, subst, arith, codes, Bor, IfSome}
use Rattle.std.specs.Option.{unwrap_or, is_some}
use Rattle.std.specs.Result.{OkIff, result_ok}
use Rattle.std.specs.Str.{bytes_eq, all_ascii_digits}
use Rattle.std.specs.Str.Parse.{digits_value, ParsesUnsigned}
use Rattle.std.specs.String.{string_bytes}
use Rattle.std.proofs.lemmas.Bool.{ltb-true, lt-ltb}
use Rattle.std.proofs.lemmas.Slice.Eq.{bytes_eq-Decides}
use Rattle.std.proofs.lemmas.Str.Parse.{IsNumeralModel, numerals_by_value, tells_all_ascii_digits, parse_plain}
use Rattle.bk_console.specs.Words.{◌>>=◌, Found, WordOptions, found_in, asked, only, at_most_once, number_of, begins_as_number, with_dir, with_stop, with_number, with_instance, with_other, behind, begins_with_hyphen, options_of, as_asked}
use Rattle.bk_console.specs.Given.{meant, meant_before, joined, Takes, TakesWord}
use Rattle.bk_console.specs.declared.command_line.Given.{Given}
use Rattle.bk_console.specs.declared.command_line.Options.{Options}
use Rattle.bk_console.specs.declared.command_line.Next.{Next}
use Rattle.bk_console.specs.declared.command_line.Next.TheVariants.{Anything, InstanceNumber, Directory}

abbrev pub given_of : Next → Option (Bor (List ℕ)) → Bool → Option ℕ → Given
given_of next dir stop instance = record { next = next; dir = dir; stop = stop; instance = instance }

abbrev none-of : (A : Type 0) → Option A
none-of A = None

then-none : {A : Type 0} (B : Type 0) (o : Option A) → (o >>= (λ _. none-of B)) ≡ none-of B
then-none B None = refl
then-none B (Some x) = refl

then-then-none : {A B : Type 0} (C : Type 0) (o : Option A) (p : Option B) → (o >>= (λ _. p >>= (λ _. none-of C))) ≡ none-of C
then-then-none C None p = refl
then-then-none C (Some x) p = then-none C p

apart : {A : Type 0} → false ≡ true → A
apart e = grind arith

pub is-empty : (b : Bool) (word : List ℕ) → b ≡ nat_eq (length word) 0 → b ≡ true → length word ≡ 0
is-empty b word e h = grind arith

pub not-empty : (b : Bool) (word : List ℕ) → b ≡ nat_eq (length word) 0 → b ≡ false → 0 < length word
not-empty b word e h = grind arith

-- the directory
pub empty-dir : (given : Given) (word : List ℕ) → length word ≡ 0 → (found : Option Found) → meant given (with_dir word found) ≡ None
unfolding meant
empty-dir given [] e found = refl
empty-dir given (c ∷ word) e found = absurd (omega arith)

pub second-dir : (next : Next) (dir : Option (Bor (List ℕ))) (stop : Bool) (instance : Option ℕ) → is_some dir ≡ true → (word : List ℕ) (found : Option Found) → meant (given_of next dir stop instance) (with_dir word found) ≡ None
unfolding meant asked
second-dir next None stop instance h word found = apart h
second-dir next (Some dir) stop instance h [] found = refl
second-dir next (Some dir) stop instance h (c ∷ word) None = refl
second-dir next (Some dir) stop instance h (c ∷ word) (Some f) = refl

with_dir-is : (word : List ℕ) → 0 < length word → (found : Option Found) → with_dir word found ≡ (found >>= (λ rest. Some (record rest { dirs = word ∷ rest.dirs })))
with_dir-is [] h found = absurd (omega arith)
with_dir-is (c ∷ word) h found = refl

dir-put : (next : Next) (stop : Bool) (instance : Option ℕ) (word : Bor (List ℕ)) (found : Option Found) → meant (given_of next None stop instance) (found >>= (λ rest. Some (record rest { dirs = word.now ∷ rest.dirs }))) ≡ meant (given_of next (Some word) stop instance) found
unfolding meant asked
dir-put next stop instance word None = refl
dir-put next stop instance word (Some f) = refl

pub first-dir : (next : Next) (dir : Option (Bor (List ℕ))) (stop : Bool) (instance : Option ℕ) → is_some dir ≡ false → (word : Bor (List ℕ)) → 0 < length word.now → (found : Option Found) → meant (given_of next dir stop instance) (with_dir word.now found) ≡ meant (given_of next (Some word) stop instance) found
first-dir next None stop instance e word h found = ap (meant (given_of next None stop instance)) (with_dir-is word.now h found) ∙ dir-put next stop instance word found
first-dir next (Some dir) stop instance e word h found = apart (sym e)

-- `-b`
pub second-stop : (next : Next) (dir : Option (Bor (List ℕ))) (stop : Bool) (instance : Option ℕ) → stop ≡ true → (found : Option Found) → meant (given_of next dir stop instance) (with_stop found) ≡ None
unfolding meant asked
second-stop next dir false instance h found = apart h
second-stop next dir true instance h None = refl
second-stop next dir true instance h (Some f) = then-none WordOptions (only (joined (given_of next dir true instance) f).dirs)

pub first-stop : (next : Next) (dir : Option (Bor (List ℕ))) (stop : Bool) (instance : Option ℕ) → stop ≡ false → (found : Option Found) → meant (given_of next dir stop instance) (with_stop found) ≡ meant (given_of next dir true instance) found
unfolding meant asked
first-stop next dir true instance h found = apart (sym h)
first-stop next dir false instance h None = refl
first-stop next dir false instance h (Some f) = refl

-- the value of `--instance`
own : IsNumeralModel (λ ds. all_ascii_digits ds ≡ true) (digits_value 10)
own = numerals_by_value _ tells_all_ascii_digits

number-by : {E : Type 0} (begins digits small : Bool) (n : ℕ) (r : Result ℕ E) → begins ≡ true → OkIff r ((digits ≡ true) × (small ≡ true)) n → result_ok r ≡ (if begins && digits && small then Some n else None)
number-by false digits small n r b h = apart b
number-by true true true n (Ok x) b h = ap Some h.1
number-by true true true n (Err e) b h = absurd (h (refl, refl))
number-by true true false n (Ok x) b h = apart h.0.1
number-by true true false n (Err e) b h = refl
number-by true false small n (Ok x) b h = apart h.0.0
number-by true false small n (Err e) b h = refl

not-plus : (word : List ℕ) → begins_as_number word ≡ true → get_or word 0 0 ≢ 43
not-plus [] b e = apart b
not-plus (c ∷ word) b e = apart (subst (λ d. (nat_le 49 d && nat_le d 57) ≡ true) e b)

nonempty : (word : List ℕ) → begins_as_number word ≡ true → 0 < length word
nonempty [] b = apart b
nonempty (c ∷ word) b = omega arith

by-tests : {E : Type 0} (word : List ℕ) (r : Result ℕ E) → begins_as_number word ≡ true → OkIff r ((all_ascii_digits word ≡ true) × (0 < length word) × (digits_value 10 word < 2 ^ 64)) (digits_value 10 word) → OkIff r ((all_ascii_digits word ≡ true) × (nat_lt (digits_value 10 word) (2 ^ 64) ≡ true)) (digits_value 10 word)
by-tests word (Ok x) b h = ((h.0.0, lt-ltb _ _ h.0.2), h.1)
by-tests word (Err e) b h = λ q. h (q.0, nonempty word b, ltb-true _ _ q.1)

pub number-parsed : {E : Type 0} (word : List ℕ) (r : Result ℕ E) → begins_as_number word ≡ true → ParsesUnsigned 64 10 word r → result_ok r ≡ number_of word
unfolding number_of
number-parsed word r b h = number-by (begins_as_number word) (all_ascii_digits word) (nat_lt (digits_value 10 word) (2 ^ 64)) (digits_value 10 word) r b (by-tests word r b (parse_plain own 64 word r h (not-plus word b)))

pub not-number : (word : List ℕ) → begins_as_number word ≡ false → None ≡ number_of word
unfolding number_of
not-number word b = rw b refl

pub no-number : (given : Given) (value : List ℕ) → number_of value ≡ None → (found : Option Found) → meant given (with_instance value found) ≡ None
unfolding meant
no-number given value e found = ap (λ o. meant given (with_number o found)) e

second-put : (next : Next) (dir : Option (Bor (List ℕ))) (stop : Bool) (instance : Option ℕ) → is_some instance ≡ true → (n : ℕ) (found : Option Found) → meant (given_of next dir stop instance) (with_number (Some n) found) ≡ None
unfolding meant asked
second-put next dir stop None h n found = apart h
second-put next dir stop (Some old) h n None = refl
second-put next dir stop (Some old) h n (Some f) = then-then-none WordOptions (only (joined (given_of next dir stop (Some old)) f).dirs) (at_most_once (joined (given_of next dir stop (Some old)) f).stops)

pub second-number : (next : Next) (dir : Option (Bor (List ℕ))) (stop : Bool) (instance : Option ℕ) → is_some instance ≡ true → (n : ℕ) (value : List ℕ) → number_of value ≡ Some n → (found : Option Found) → meant (given_of next dir stop instance) (with_instance value found) ≡ None
second-number next dir stop instance h n value e found = ap (λ o. meant (given_of next dir stop instance) (with_number o found)) e ∙ second-put next dir stop instance h n found

number-put : (next after : Next) (dir : Option (Bor (List ℕ))) (stop : Bool) (instance : Option ℕ) → is_some instance ≡ false → (n : ℕ) (found : Option Found) → meant (given_of next dir stop instance) (with_number (Some n) found) ≡ meant (given_of after dir stop (Some n)) found
unfolding meant asked
number-put next after dir stop (Some old) h n found = apart (sym h)
number-put next after dir stop None h n None = refl
number-put next after dir stop None h n (Some f) = refl

pub first-number : (next after : Next) (dir : Option (Bor (List ℕ))) (stop : Bool) (instance : Option ℕ) → is_some instance ≡ false → (n : ℕ) (value : List ℕ) → number_of value ≡ Some n → (found : Option Found) → meant (given_of next dir stop instance) (with_instance value found) ≡ meant (given_of after dir stop (Some n)) found
first-number next after dir stop instance h n value e found = ap (λ o. meant (given_of next dir stop instance) (with_number o found)) e ∙ number-put next after dir stop instance h n found

-- another option
pub hyphen-refused : (given : Given) (word : List ℕ) → None ≡ behind (codes "--instance=") word → begins_with_hyphen word ≡ true → (found : Option Found) → meant given (with_other (behind (codes "--instance=") word) word found) ≡ None
unfolding meant
hyphen-refused given word e h found = ap (λ o. meant given (with_other o word found)) (sym e) ∙ ap (λ b. meant given (if b then None else with_dir word found)) h

-- what may come next doesn't matter to what was given
pub any-next : (next after : Next) (dir : Option (Bor (List ℕ))) (stop : Bool) (instance : Option ℕ) (found : Option Found) → meant (given_of next dir stop instance) found ≡ meant (given_of after dir stop instance) found
unfolding meant
any-next next after dir stop instance found = refl

-- a word, by the thing that it adds
pub taken : (given : Given) (word : List ℕ) (result : Option Given) (add : Option Found → Option Found) (next : Next) → ((words : List (List ℕ)) → found_in given.next (word ∷ words) ≡ add (found_in next words)) → Takes given add result → IfSome result (λ after. after.next ≡ next) → TakesWord given word result
taken given word None add next e takes h = λ words. ap (meant given) (e words) ∙ takes (found_in next words)
taken given word (Some after) add next e takes h = λ words. ap (meant given) (e words) ∙ (takes (found_in next words) ∙ ap (λ n. meant after (found_in n words)) (sym h))

-- what a word adds
pub adds-stop : (next : Next) (word : List ℕ) → next ≡ Anything → word ≡ codes "-b" → (words : List (List ℕ)) → found_in next (word ∷ words) ≡ with_stop (found_in next words)
unfolding found_in
adds-stop next word e f words = rw (e, f) refl

pub adds-instance : (next : Next) (word : List ℕ) → next ≡ Anything → word ≡ codes "--instance" → (words : List (List ℕ)) → found_in next (word ∷ words) ≡ found_in InstanceNumber words
unfolding found_in
adds-instance next word e f words = rw (e, f) refl

pub adds-end : (next : Next) (word : List ℕ) → next ≡ Anything → word ≡ codes "--" → (words : List (List ℕ)) → found_in next (word ∷ words) ≡ found_in Directory words
unfolding found_in
adds-end next word e f words = rw (e, f) refl

differs : (word literal : List ℕ) → (word ≡ literal → ⊥) → bytes_eq word literal ≡ false
differs word literal h = elim (bytes_eq word literal) as (λ b. ((b ≡ true → word ≡ literal) → b ≡ false)) [ true ↦ λ d. absurd (h (d refl)) | false ↦ λ d. refl ] (bytes_eq-Decides word literal).0

pub adds-other : (next : Next) (word : List ℕ) → next ≡ Anything → (word ≡ codes "-b" → ⊥) → (word ≡ codes "--instance" → ⊥) → (word ≡ codes "--" → ⊥) → (words : List (List ℕ)) → found_in next (word ∷ words) ≡ with_other (behind (codes "--instance=") word) word (found_in Anything words)
unfolding found_in
adds-other next word e f g h words = rw (e, differs word _ f, differs word _ g, differs word _ h) refl

pub adds-value : (next : Next) (word : List ℕ) → next ≡ InstanceNumber → (words : List (List ℕ)) → found_in next (word ∷ words) ≡ with_instance word (found_in Anything words)
unfolding found_in
adds-value next word e words = rw e refl

pub adds-dir : (next : Next) (word : List ℕ) → next ≡ Directory → (words : List (List ℕ)) → found_in next (word ∷ words) ≡ with_dir word (found_in next words)
unfolding found_in
adds-dir next word e words = rw e refl

-- no word more
pub end-of-value : (given : Given) → given.next ≡ InstanceNumber → meant_before given [] ≡ None
unfolding meant found_in
end-of-value given e = ap (λ next. meant given (found_in next [])) e

end-of-none : (next : Next) (stop : Bool) (instance : Option ℕ) → meant_before (given_of next None stop instance) [] ≡ None
unfolding meant found_in asked
end-of-none Anything stop instance = refl
end-of-none InstanceNumber stop instance = refl
end-of-none Directory stop instance = refl

pub end-without-dir : (next : Next) (dir : Option (Bor (List ℕ))) (stop : Bool) (instance : Option ℕ) → dir ≡ None → meant_before (given_of next dir stop instance) [] ≡ None
end-without-dir next dir stop instance e = ap (λ d. meant_before (given_of next d stop instance) []) e ∙ end-of-none next stop instance

pub end-with-dir : (next : Next) (dir : Bor (List ℕ)) (stop : Bool) (instance : Option ℕ) → (next ≡ InstanceNumber → ⊥) → meant_before (given_of next (Some dir) stop instance) [] ≡ Some (record { dir = dir.now; stop = stop; instance = unwrap_or instance 1 })
unfolding meant found_in asked
end-with-dir InstanceNumber dir stop instance h = absurd (h refl)
end-with-dir Anything dir true None h = refl
end-with-dir Anything dir true (Some n) h = refl
end-with-dir Anything dir false None h = refl
end-with-dir Anything dir false (Some n) h = refl
end-with-dir Directory dir true None h = refl
end-with-dir Directory dir true (Some n) h = refl
end-with-dir Directory dir false None h = refl
end-with-dir Directory dir false (Some n) h = refl

pub end-asked : (next : Next) (dir : Option (Bor (List ℕ))) (stop : Bool) (instance : Option ℕ) (d : Bor (List ℕ)) (options : Options) → dir ≡ Some d → (next ≡ InstanceNumber → ⊥) → string_bytes options.dir ≡ d.now → options.stop ≡ stop → options.instance ≡ unwrap_or instance 1
    → meant_before (given_of next dir stop instance) [] ≡ Some (as_asked options)
end-asked next dir stop instance d options e h same_dir same_stop same_number = rw (e, same_dir, same_stop, same_number) (end-with-dir next d stop instance h)

pub end-not-none : (next : Next) (dir : Option (Bor (List ℕ))) (stop : Bool) (instance : Option ℕ) (d : Bor (List ℕ)) → dir ≡ Some d → (next ≡ InstanceNumber → ⊥) → meant_before (given_of next dir stop instance) [] ≡ None → ⊥
end-not-none next dir stop instance d e h n = apart (ap is_some (sym n ∙ (ap (λ o. meant_before (given_of next o stop instance) []) e ∙ end-with-dir next d stop instance h)))

-- no word yet
initial-found : (found : Option Found) → (found >>= asked) ≡ meant (given_of Anything None false None) found
unfolding meant
initial-found None = refl
initial-found (Some f) = refl

pub initial : (words : List (List ℕ)) → options_of words ≡ meant_before (given_of Anything None false None) words
unfolding options_of
initial words = initial-found (found_in Anything words)
