-- All bytes are zero, then the first is one.
use Rattle.std.proofs.Common.{◌≡◌, ℕ, zero, suc, ◌-◌, ◌≤◌, true, false, List, length, set, replicate, sym, ap, ◌∙◌, arith}
use Rattle.book_rules.specs.Book.{length_fits, fresh_book}
use Rattle.book_rules.proofs.Lengths.{length-least}
use Rattle.check_book.specs.Verdicts.{fresh_answer, fresh_after}
use Rattle.check_book.proofs.fresh.Goals as goal

all-zero : (n : ℕ) → 1 ≤ n → set (replicate n 0) 0 1 ≡ fresh_book n
unfolding fresh_book
all-zero zero p = absurd (omega arith)
all-zero (suc n) p = let e : suc n - 1 ≡ n = omega arith in rw e

pub returns-then-not-length_fits : goal.returns-then-not-length_fits
unfolding fresh_answer fresh_after
returns-then-not-length_fits c =
    let unfit : length_fits c.args.book.now ≡ false = sym c.length_fits.ensures ∙ c.if-not-length_fits.true in
    record { answer = rw unfit; after = rw unfit }

pub bounds-book-0 : goal.bounds-book-0
bounds-book-0 c = omega (arith, c.fill.ensures.len, length-least c.args.book.now (sym c.length_fits.ensures ∙ c.if-not-length_fits.false))

pub returns : goal.returns
unfolding fresh_answer fresh_after
returns c =
    let b = c.args.book.now in
    let fit : length_fits b ≡ true = sym c.length_fits.ensures ∙ c.if-not-length_fits.false in
    let least = length-least b fit in
    record { answer = rw fit; after = rw fit (ap (λ (s : List ℕ). set s 0 1) (c.fill.ensures.after (λ y e. e)) ∙ all-zero (length b) (omega arith)) }
