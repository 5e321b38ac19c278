-- A table is written line by line and a line number by number, each where the one before it ends; what is written can be read
-- at once.
use Rattle.std.proofs.Common.{◌≡◌, ℕ, ◌+◌, ◌*◌, ◌≤◌, List, ◌++◌, length, sym, ap, ◌∙◌, ap₂, append_assoc, append-nil, mul-suc, add-one, arith, length-append, drop_of_length-le}
use Rattle.codec.specs.Bytes.{bytes_of, stored}
use Rattle.codec.proofs.Numbers.{length-bytes}
use Rattle.codec.proofs.Stores.{stored-over}
use Rattle.codec.proofs.Pieces.{stored-then, stored-none}
use Rattle.sheet_archive.specs.Tables.{header_length, pieces, table_line, table_lines, table_length}
use Rattle.sheet_archive.proofs.Tables.{length-line, length-lines}

-- A LINE from `at` on, of the string t₀
module _ (at : ℕ) (f : ℕ → ℕ) (t₀ : List ℕ) where
  pub line-begun : t₀ ≡ stored at (table_line 0 f) t₀
  unfolding table_line pieces
  line-begun = sym (stored-none at t₀)

  pub line-next : (j : ℕ) (t : List ℕ) (place n : ℕ) → at + 4 * (j + 1) ≤ length t₀ → t ≡ stored at (table_line j f) t₀
      → place ≡ at + 4 * j → n ≡ f j → stored place (bytes_of 4 n) t ≡ stored at (table_line (j + 1) f) t₀
  unfolding table_line pieces
  line-next j t place n fits e p v =
      let end : place ≡ at + length (table_line j f) = omega (arith, length-line j f) in
      let room : at + (length (table_line j f) + length (bytes_of 4 (f j))) ≤ length t₀ = omega (arith, length-line j f, length-bytes 4 (f j)) in
      ap₂ (λ (k : ℕ) (s : List ℕ). stored k (bytes_of 4 n) s) end e
      ∙ ap (λ (m : ℕ). stored (at + length (table_line j f)) (bytes_of 4 m) (stored at (table_line j f) t₀)) v
      ∙ stored-then at (table_line j f) (bytes_of 4 (f j)) t₀ room
      ∙ ap (λ (k : ℕ). stored at (table_line k f) t₀) (sym (add-one j))

  -- more of the line, over what stands of it already
  pub line-again : (j k : ℕ) (t : List ℕ) → j ≤ k → at + 4 * k ≤ length t → t₀ ≡ stored at (table_line j f) t
      → stored at (table_line k f) t₀ ≡ stored at (table_line k f) t
  line-again j k t l room e =
      let longer : length (table_line j f) ≤ length (table_line k f) = omega (arith, length-line j f, length-line k f) in
      ap (stored at (table_line k f)) e ∙ stored-over at (table_line k f) (table_line j f) t longer (omega (arith, length-line k f))

-- A TABLE with the header h, into the string t₀
module _ (places : ℕ) (h : List ℕ) (f : ℕ → ℕ → ℕ) (t₀ : List ℕ) where
  -- the header and the first n lines
  abbrev pub written : ℕ → List ℕ
  written n = stored 0 (h ++ table_lines n places f) t₀

  -- the header stands already
  pub table-begun : (t : List ℕ) → length h ≤ length t → t₀ ≡ stored 0 h t → t₀ ≡ written 0
  unfolding table_lines pieces
  table-begun t l e =
      e
      ∙ sym (stored-over 0 h h t (omega arith) (omega arith))
      ∙ ap (stored 0 h) (sym e)
      ∙ ap (λ (s : List ℕ). stored 0 s t₀) (sym (append-nil h))

  module _ (long : length h ≡ header_length) where
    length-table : (n : ℕ) → length (h ++ table_lines n places f) ≡ header_length + 4 * places * n
    length-table n = rw length-append (omega (arith, length-lines n places f))

    pub table-next : (n : ℕ) (t bs : List ℕ) → table_length (n + 1) places ≤ length t₀ → t ≡ written n → bs ≡ table_line places (f n)
        → stored (header_length + 4 * places * n) bs t ≡ written (n + 1)
    unfolding table_lines pieces
    table-next n t bs fits e b =
        let end : header_length + 4 * places * n ≡ 0 + length (h ++ table_lines n places f) = omega (arith, length-table n) in
        let room : 0 + (length (h ++ table_lines n places f) + length (table_line places (f n))) ≤ length t₀ =
        omega (arith, length-table n, length-line places (f n), mul-suc places n) in
        ap₂ (λ (k : ℕ) (s : List ℕ). stored k bs s) end e
        ∙ ap (λ (s : List ℕ). stored (0 + length (h ++ table_lines n places f)) s (written n)) b
        ∙ stored-then 0 (h ++ table_lines n places f) (table_line places (f n)) t₀ room
        ∙ ap (λ (s : List ℕ). stored 0 s t₀) (append_assoc h (table_lines n places f) (table_line places (f n)))
        ∙ ap written (sym (add-one n))

    pub table-whole : (n : ℕ) → length t₀ ≡ table_length n places → written n ≡ h ++ table_lines n places f
    unfolding stored
    table-whole n e =
        let past : length t₀ ≤ 0 + length (h ++ table_lines n places f) = omega (arith, length-table n) in
        rw (drop_of_length-le t₀ past) (append-nil (h ++ table_lines n places f))
