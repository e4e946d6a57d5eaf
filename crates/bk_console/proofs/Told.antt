-- How many replies were told whole.
use Rattle.std.proofs.Common.{◌≡◌, ◌≤◌, ℕ, zero, suc, ◌-◌, Bool, true, false, List, [], ◌∷◌, ◌++◌, length, refl, ap, ◌∙◌, arith, length-append}
use Rattle.std.specs.Prelude.{nat_le, if◌then◌else◌}
use Rattle.std.proofs.lemmas.Bool.Decides.{nat_tests}
use Rattle.bk_report.specs.Listing.{listing_text}
use Rattle.bk_world.specs.declared.reply.Reply.{Reply}
use Rattle.bk_world.specs.Text.{reply_text, replies_text}
use Rattle.bk_console.specs.Answers.{told_before, told_whole}

-- where nothing is told of it and nothing behind it, a reply counts no more
before-none : (text : List ℕ) (n : ℕ) → n ≡ 0 → (if nat_le (length text) 0 then told_before text n else 0) ≡ 0
before-none [] n none = ap (told_before []) none
before-none (byte ∷ text) n none =
    let no : nat_le (length (byte ∷ text)) 0 ≡ false = grind (arith, nat_tests) in
    ap (λ t. if t then told_before (byte ∷ text) n else 0) no

-- where nothing is told none is
pub told-none : (replies : List Reply) → told_whole replies 0 ≡ 0
unfolding told_whole
told-none [] = refl
told-none (reply ∷ replies) =
    let nothing : 0 - length (reply_text listing_text reply) ≡ 0 = omega arith in
    before-none (reply_text listing_text reply) (told_whole replies (0 - length (reply_text listing_text reply))) (ap (told_whole replies) nothing ∙ told-none replies)

before-some : (text : List ℕ) (n m : ℕ) → n ≤ m → told_before text n ≤ suc m
before-some [] zero m le = omega arith
before-some [] (suc n) m le = omega (arith, le)
before-some (byte ∷ text) n m le = omega (arith, le)

told-some : (text : List ℕ) (n m : ℕ) (t : Bool) → n ≤ m → (if t then told_before text n else 0) ≤ suc m
told-some text n m true le = before-some text n m le
told-some text n m false le = omega arith

-- at most all are
pub told-all : (replies : List Reply) (m : ℕ) → told_whole replies m ≤ length replies
unfolding told_whole
told-all [] m = omega arith
told-all (reply ∷ replies) m =
    told-some (reply_text listing_text reply) (told_whole replies (m - length (reply_text listing_text reply))) (length replies) (nat_le (length (reply_text listing_text reply)) m) (told-all replies (m - length (reply_text listing_text reply)))

-- bytes of the first replies are of no later ones
pub told-front : (replies more : List Reply) (m : ℕ) → m ≤ length (replies_text listing_text replies) → told_whole (replies ++ more) m ≡ told_whole replies m
unfolding told_whole
told-front [] more m le =
    let none : m ≡ 0 = omega arith in
    ap (told_whole more) none ∙ told-none more
told-front (reply ∷ replies) more m le =
    let rest : m - length (reply_text listing_text reply) ≤ length (replies_text listing_text replies) = omega (arith, le, length-append (reply_text listing_text reply) (replies_text listing_text replies)) in
    ap (λ n. if nat_le (length (reply_text listing_text reply)) m then told_before (reply_text listing_text reply) n else 0) (told-front replies more (m - length (reply_text listing_text reply)) rest)
