-- Rows of text: what is put into one stands after what is there, as far as there is room.
use Rattle.std.specs.Prelude.{ℕ, zero, suc, List, [], ◌∷◌, ◌++◌, take}
use Rattle.output.specs.declared.Row.{Row}

abbrev pub row_room : ℕ
row_room = 256

-- the text of a row
abbrev pub text_of : Row → List ℕ
text_of r = take r.count r.bytes

-- a text after another, cut where the row ends
unfoldable pub joined : List ℕ → List ℕ → List ℕ
joined s t = take row_room (s ++ t)

-- so many blanks
unfoldable pub blanks : ℕ → List ℕ
blanks zero = []
blanks (suc n) = blanks n ++ (32 ∷ [])
