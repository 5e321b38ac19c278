-- The limits of document 01 that more than one layer names, each once, with its section and its unit.
use Rattle.std.specs.Prelude.{ℕ, ◌-◌}

-- "Year sheet": "kWh are at most 20,000,000; prices and rates 500,000"
abbrev pub max_kwh : ℕ
max_kwh = 20000000

abbrev pub max_price : ℕ
max_price = 500000

-- a tier rate is a net rate and at most a system rate more ("Year's values")
abbrev pub max_tier_rate : ℕ
max_tier_rate = 1000000

-- "Book", ranges: "C, O, liquidation and an advance are at most 3.6·10^14", in ticks
abbrev pub max_year_ticks : ℕ
max_year_ticks = 360000000000000

-- "F 7.2·10^14", in ticks
abbrev pub max_flat_rate : ℕ
max_flat_rate = 720000000000000

-- "contribution 1.08·10^15", in ticks
abbrev pub max_contribution : ℕ
max_contribution = 1080000000000000

-- "at most 1.8·10^14 for each half", in ticks
abbrev pub max_half_ticks : ℕ
max_half_ticks = 180000000000000

-- ticket 1: the largest yearly charge, 45 €, in ticks
abbrev pub max_charge : ℕ
max_charge = 4500000

-- "a half 360,000,000", in kWh; "Payer": "an estimate above 360,000,000"
abbrev pub max_half_kwh : ℕ
max_half_kwh = 360000000

-- "Ranges": "class 1–11, plant 1–17, power 1–200,000, activation 2013–2099", "open year from activation to 2100"
abbrev pub max_power : ℕ
max_power = 200000

abbrev pub first_activation : ℕ
first_activation = 2013

abbrev pub last_activation : ℕ
last_activation = 2099

abbrev pub last_open_year : ℕ
last_open_year = 2100

-- the years that can be closed, from the first activation year to the last open year
abbrev pub most_years : ℕ
most_years = last_open_year - first_activation

-- "Book": "Records of 80 bytes, 2 to 800 of them"
abbrev pub record_length : ℕ
record_length = 80

abbrev pub most_records : ℕ
most_records = 800
