-- "Figures to prove, one table" of document 01: a field for each figure, an equation over the definitions that the
-- contracts cite.
use Rattle.std.specs.Prelude.{ℕ, min, ◌≡◌, List, [], ◌∷◌, get_or}
use Rattle.tariff.specs.Tariff.{annual_tiers, flat_rate_of, mean_rate, tier_rate}
use Rattle.calendar.specs.ElectionAndAdvances.{paid_of}
use Rattle.account_steps.specs.Closing.{contribution_of, liquidation_of, lapsed_of, credit_after}

-- the tiers of (1): class 1, W 3,000, E the smaller of W and injected 1,800
abbrev tiers_of : ℕ → ℕ → List ℕ
tiers_of withdrawn injected = annual_tiers 1 withdrawn (min withdrawn injected)

-- the rates of (2), by tier
abbrev rates_of : List ℕ → ℕ → ℕ
rates_of rates tier = get_or rates tier 0

-- the credit of (10) after the first and after the second year; option 0 is credit, 1 liquidation
abbrev after_first : ℕ
after_first = credit_after 0 0 10 4

abbrev after_second : ℕ
after_second = credit_after 0 after_first 3 5

-- contributions, liquidation, lapsed credit and credit of the three closings
abbrev closings : List ℕ
closings =
    contribution_of 0 0 10 4 0
    ∷ contribution_of 0 after_first 3 5 0
    ∷ contribution_of 1 after_second 9 2 0
    ∷ liquidation_of 1 9 2
    ∷ lapsed_of 1 after_second
    ∷ credit_after 1 after_second 9 2
    ∷ []

pub record Figures : Type 0 where
  -- W 3,000, injected 1,800, domestic
  pub figure1 : tiers_of 3000 1800 ≡ 600 ∷ 840 ∷ 360 ∷ 0 ∷ []
  -- with rates 3,000, 4,000, 6,000, 7,000: F
  pub figure2 : flat_rate_of (tiers_of 3000 1800) (rates_of (3000 ∷ 4000 ∷ 6000 ∷ 7000 ∷ [])) ≡ 7320000
  -- twelve rates by their sum
  pub figure3 : mean_rate 12 18 ≡ 2
  pub figure4 : mean_rate 12 17 ≡ 1
  -- plant 1, its power in watts, net and system
  pub figure5 : tier_rate 1 50000 2000 6000 ≡ 7600
  pub figure6 : tier_rate 1 50000 8000 6000 ≡ 8000
  pub figure7 : tier_rate 1 20000 2000 6000 ≡ 8000
  -- an advance
  pub figure8 : paid_of 1500000 ≡ 0
  pub figure9 : paid_of 1500001 ≡ 1500001
  -- (C, O) = (10, 4), (3, 5) on credit, (9, 2) liquidated, F 0
  pub figure10 : closings ≡ 4 ∷ 5 ∷ 2 ∷ 7 ∷ 4 ∷ 0 ∷ []
