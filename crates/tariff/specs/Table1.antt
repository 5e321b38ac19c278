-- Table 1 of source document 000, "in €/MWh", as "Year's values" of document 01 numbers its kinds: 1 to 16 in printed order.
use Rattle.std.specs.Prelude.{ℕ, ◌*◌, Bool, true, cond, List, [], ◌∷◌, leb, eqb}

-- the powers of a row, in kW, above those of the row before: up to a bound that belongs to the row, or all
pub data Power : Type 0 where
  up_to : ℕ → Power
  beyond : Power

pub record Row : Type 0 where
  pub kind : ℕ
  pub power : Power
  pub euro_per_mwh : ℕ

abbrev row : ℕ → Power → ℕ → Row
row k p e = record { kind = k; power = p; euro_per_mwh = e }

unfoldable pub table1 : List Row
table1 =
    -- 1 solar: photovoltaic
    row 1 (up_to 200) 76 ∷ row 1 (up_to 1000) 48 ∷ row 1 (up_to 5000) 36 ∷ row 1 beyond 30 ∷
    -- 2 wind: on shore
    row 2 (up_to 200) 186 ∷ row 2 (up_to 1000) 67 ∷ row 2 (up_to 5000) 53 ∷ row 2 beyond 45 ∷
    -- 3 wind: off shore
    row 3 (up_to 5000) 94 ∷ row 3 beyond 83 ∷
    -- 4 hydro: run of river, waterworks included
    row 4 (up_to 500) 137 ∷ row 4 (up_to 1000) 73 ∷ row 4 (up_to 10000) 47 ∷ row 4 beyond 37 ∷
    -- 5 hydro: basin or reservoir
    row 5 (up_to 10000) 19 ∷ row 5 beyond 14 ∷
    -- 6 ocean, tides and waves included
    row 6 (up_to 5000) 218 ∷ row 6 beyond 112 ∷
    -- 7 geothermal
    row 7 (up_to 1000) 53 ∷ row 7 (up_to 20000) 17 ∷ row 7 beyond 3 ∷
    -- 8 landfill gas
    row 8 (up_to 1000) 17 ∷ row 8 (up_to 5000) 12 ∷ row 8 beyond 8 ∷
    -- 9 sewage gas
    row 9 (up_to 1000) 29 ∷ row 9 (up_to 5000) 6 ∷ row 9 beyond 3 ∷
    -- 10 biogas: a) biological products
    row 10 (up_to 300) 98 ∷ row 10 (up_to 600) 78 ∷ row 10 (up_to 1000) 58 ∷ row 10 (up_to 5000) 22 ∷ row 10 beyond 9 ∷
    -- 11 biogas: b) biological by-products of Table 1-A, d) other waste not collected separately
    row 11 (up_to 300) 154 ∷ row 11 (up_to 600) 124 ∷ row 11 (up_to 1000) 96 ∷ row 11 (up_to 5000) 43 ∷ row 11 beyond 19 ∷
    -- 12 biogas: c) waste whose biodegradable share is set at a flat rate
    row 12 (up_to 1000) 134 ∷ row 12 (up_to 5000) 27 ∷ row 12 beyond 3 ∷
    -- 13 biomass: a) biological products
    row 13 (up_to 300) 147 ∷ row 13 (up_to 1000) 98 ∷ row 13 (up_to 5000) 51 ∷ row 13 beyond 40 ∷
    -- 14 biomass: b) biological by-products of Table 1-A, d) other waste not collected separately
    row 14 (up_to 300) 175 ∷ row 14 (up_to 1000) 127 ∷ row 14 (up_to 5000) 79 ∷ row 14 beyond 63 ∷
    -- 15 biomass: c) waste whose biodegradable share is set at a flat rate
    row 15 (up_to 5000) 92 ∷ row 15 beyond 43 ∷
    -- 16 sustainable bioliquids
    row 16 (up_to 5000) 39 ∷ row 16 beyond 28 ∷ []

-- the rows of one kind, in their order
unfoldable pub rows_of_kind : ℕ → List Row → List Row
rows_of_kind k [] = []
rows_of_kind k (r ∷ rs) = cond (eqb r.kind k) (r ∷ rows_of_kind k rs) (rows_of_kind k rs)

-- the row's powers reach a power in watts
unfoldable pub reaches : Power → ℕ → Bool
reaches (up_to k) watts = leb watts (1000 * k)
reaches beyond watts = true

-- the €/MWh of the first row that reaches the power, 0 if there is none
unfoldable pub first_reaching : ℕ → List Row → ℕ
first_reaching watts [] = 0
first_reaching watts (r ∷ rs) = cond (reaches r.power watts) r.euro_per_mwh (first_reaching watts rs)

unfoldable pub table_euro_per_mwh : ℕ → ℕ → ℕ
table_euro_per_mwh kind watts = first_reaching watts (rows_of_kind kind table1)
