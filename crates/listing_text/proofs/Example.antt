-- "User 7 with (10, 4) closed for 2014 alone prints `7 2015 6`."
use mathlib.Core.Path.{◌≡◌}
use mathlib.Core.List.{[], ◌∷◌}
use Rattle.sheet_values.specs.declared.YearValues.{YearValues}
use Rattle.account_steps.specs.declared.Account.{Account}
use Rattle.account_steps.specs.Closing.{credit_after}
use Rattle.account_steps.specs.Account.{account_closed}
use Rattle.decimals.specs.Decimals.{decimal_of, line_feed}
use Rattle.listing_text.specs.Listing.{blank}
use Rattle.listing_text.specs.InnerWritten.{field, account_line}

pub user-7 : (a : Account) (v : YearValues) → a.number.0 ≡ 7 → a.option ≡ 0 → a.open_year ≡ 2014 → a.credit.0 ≡ 0
    → v.value.0 ≡ 10 → v.cost.0 ≡ 4
    → account_line (account_closed v a) ≡ 55 ∷ blank ∷ 50 ∷ 48 ∷ 49 ∷ 53 ∷ blank ∷ 54 ∷ line_feed ∷ []
unfolding account_line field decimal_of account_closed credit_after
user-7 a v number option year credit value cost = rw (number, option, year, credit, value, cost)
