-- What stands in order: the end in the activation year, or an entry whose level, with the year that it ends, is due.
use Prim.Native.Nat.{ℕ, ◌+◌}
use mathlib.Core.Path.{◌≡◌, sym, ◌∙◌}
use mathlib.Core.Bool.{true, false, ◌&&◌, or-true}
use mathlib.Core.Logic.{◌⊎◌, inl, inr}
use mathlib.Core.List.{List}
use native.Mathlib.Omega.{arith}
use native.Mathlib.Nat.{add-zero}
use borrow.Author.Tests.{eq-eqb, ne_eqb}
use lib.Dec.{eqb}
use Rattle.book_layout.specs.Fields.{advance_kind, closing_kind}
use Rattle.book_rules.specs.Book.{kind_at, is_entry, is_closing, keeps_year, level_of, years_ended, in_order}
use Rattle.book_rules.proofs.RecordKinds.{kind-is, entry-index, year-cases}

module _ (b : List ℕ) (e : ℕ) where
  kept-level : keeps_year b e ≡ true → level_of b e + years_ended (kind_at b e) ≡ level_of b e
  unfolding years_ended
  kept-level a = rw (kind-is b advance_kind e a, add-zero (level_of b e))

  ended-level : is_closing b e ≡ true → level_of b e + years_ended (kind_at b e) ≡ level_of b e + 1
  unfolding years_ended
  ended-level c = rw (kind-is b closing_kind e c)

  pub entry-in-order : (activation y : ℕ) → is_entry b e ≡ true → level_of b e + years_ended (kind_at b e) ≡ y → in_order b activation y e ≡ true
  unfolding in_order
  entry-in-order activation y h due = by_kind (year-cases b e h)
    where
      some : eqb e 0 ≡ false
      some = ne_eqb e 0 (let lo = (entry-index b e h).0 in omega arith)

      by_kind : (keeps_year b e ≡ true) ⊎ (is_closing b e ≡ true) → in_order b activation y e ≡ true
      by_kind (inl k) = rw (some, k, eq-eqb (level_of b e) y (sym (kept-level k) ∙ due))
      by_kind (inr c) = rw (some, c, eq-eqb (level_of b e + 1) y (sym (ended-level c) ∙ due), or-true (keeps_year b e && eqb (level_of b e) y))
