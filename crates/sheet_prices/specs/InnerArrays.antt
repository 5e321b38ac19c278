-- How the program's arrays hold a sheet's numbers: twelve months by three bands, and twelve months.
use Rattle.std.specs.Prelude.{ℕ, ◌+◌, ◌*◌, ◌≤◌, ◌<◌, ◌≡◌, Bool, true, false, cond, List, [], ◌∷◌, get_or}
use Rattle.units.specs.declared.Kwh.{Kwh}
use Rattle.units.specs.declared.Rate.{Rate}
use Rattle.units.specs.Units.{kwh, rate}
use Rattle.units.specs.Limits.{max_kwh, max_price}
use Rattle.units.specs.Folds.{sum_below}
use Rattle.codec.specs.Bytes.{part}
use Rattle.sheet.specs.YearSheet.{word, pun, pun_mean, zone, zone_mean, zone_day_mean}
use Rattle.sheet_prices.specs.ValueAndCost.{band_price, single_price}
use Rattle.sheet_prices.specs.declared.Reading.{Reading}
use Rattle.sheet_prices.specs.declared.Reading.TheVariants.{Withdrawn, Injected}
use Rattle.sheet_prices.specs.declared.Series.{Series}
use Rattle.sheet_prices.specs.declared.Series.TheVariants.{PunBands, PunMean, ZoneBands, ZoneMean, ZoneDayMean}

-- three numbers of a month, from a place on
abbrev pub energy_row : List ℕ → ℕ → ℕ → List Kwh
energy_row s place m = kwh (word s m place) ∷ kwh (word s m (place + 1)) ∷ kwh (word s m (place + 2)) ∷ []

-- where a reading's F1 stands
abbrev pub first_place : Reading → ℕ
first_place Withdrawn = 0
first_place Injected = 3

-- the series that applies, and its prices as they stand in a month's PUN series (bands, mean) and zone series (bands, mean, mean of
-- hours 8–20)
abbrev pub series_of : (bands island photovoltaic : Bool) → Series
series_of true true photovoltaic = PunBands
series_of true false photovoltaic = ZoneBands
series_of false true photovoltaic = PunMean
series_of false false true = ZoneDayMean
series_of false false false = ZoneMean

abbrev pub series_part : Series → (zone pun : List ℕ) → List ℕ
series_part PunBands zone pun = part 12 0 pun
series_part PunMean zone pun = part 4 12 pun
series_part ZoneBands zone pun = part 12 0 zone
series_part ZoneMean zone pun = part 4 12 zone
series_part ZoneDayMean zone pun = part 4 16 zone

-- its prices of a month, by band; the price of a single reading stands at F1, with zeros for F2 and F3
abbrev pub prices_in : List ℕ → Series → ℕ → List Rate
prices_in s PunBands m = rate (pun s m 0) ∷ rate (pun s m 1) ∷ rate (pun s m 2) ∷ []
prices_in s PunMean m = rate (pun_mean s m) ∷ rate 0 ∷ rate 0 ∷ []
prices_in s ZoneBands m = rate (zone s m 0) ∷ rate (zone s m 1) ∷ rate (zone s m 2) ∷ []
prices_in s ZoneMean m = rate (zone_mean s m) ∷ rate 0 ∷ rate 0 ∷ []
prices_in s ZoneDayMean m = rate (zone_day_mean s m) ∷ rate 0 ∷ rate 0 ∷ []

-- the prices of a month's three bands; the price of a single reading stands at F1, with zeros for F2 and F3
abbrev pub price_row : List ℕ → Bool → Bool → Bool → ℕ → List Rate
price_row s bands island photovoltaic m =
    cond bands (rate (band_price s island m 0) ∷ rate (band_price s island m 1) ∷ rate (band_price s island m 2) ∷ [])
    (rate (single_price s island photovoltaic m) ∷ rate 0 ∷ rate 0 ∷ [])

-- the rows of a year
abbrev pub EnergyRows : (ℕ → List Kwh) → List (List Kwh) → Type 0
EnergyRows row a = (m : ℕ) → m < 12 → get_or a m [] ≡ row m

abbrev pub PriceRows : (ℕ → List Rate) → List (List Rate) → Type 0
PriceRows row a = (m : ℕ) → m < 12 → get_or a m [] ≡ row m

-- the energy and the price of a band in a row, and of a month in an array of twelve
abbrev pub energy_at : ℕ → List Kwh → ℕ
energy_at i a = (get_or a i (kwh 0)).0

abbrev pub price_at : ℕ → List Rate → ℕ
price_at i a = (get_or a i (rate 0)).0

-- "kWh are at most 20,000,000; prices and rates 500,000": a row of energies and one of prices within their limits
pub record RowFits (energy : List Kwh) (prices : List Rate) : Type 0 where
  pub energy₀ : energy_at 0 energy ≤ max_kwh
  pub energy₁ : energy_at 1 energy ≤ max_kwh
  pub energy₂ : energy_at 2 energy ≤ max_kwh
  pub price₀ : price_at 0 prices ≤ max_price
  pub price₁ : price_at 1 prices ≤ max_price
  pub price₂ : price_at 2 prices ≤ max_price

abbrev pub EnergiesFit : List (List Kwh) → Type 0
EnergiesFit a =
    (m : ℕ) → m < 12
    → (energy_at 0 (get_or a m []) ≤ max_kwh) × ((energy_at 1 (get_or a m []) ≤ max_kwh) × (energy_at 2 (get_or a m []) ≤ max_kwh))

abbrev pub PricesFit : List (List Rate) → Type 0
PricesFit a =
    (m : ℕ) → m < 12
    → (price_at 0 (get_or a m []) ≤ max_price) × ((price_at 1 (get_or a m []) ≤ max_price) × (price_at 2 (get_or a m []) ≤ max_price))

-- energy times price, band by band, and the energy of the three bands
unfoldable pub row_value : List Kwh → List Rate → ℕ
row_value energy prices = sum_below 3 (λ b. energy_at b energy * price_at b prices)

unfoldable pub row_total : List Kwh → ℕ
row_total energy = energy_at 0 energy + energy_at 1 energy + energy_at 2 energy
