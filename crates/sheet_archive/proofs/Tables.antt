-- A table's numbers are read back from its bytes, and a table is put together again from its numbers: a line is made of
-- pieces of four bytes, and the table of pieces of a line.
use Rattle.std.proofs.Common.{◌≡◌, ℕ, suc, ◌+◌, ◌*◌, ◌^◌, ◌<◌, ◌≤◌, List, ◌++◌, length, take, drop, sym, ap, ◌∙◌, mul-le-mul_left, mul-suc, arith, length-drop, take-append-drop, length-take-le}
use Rattle.std.proofs.Common.{take_all, take_at}
use Rattle.codec.specs.Bytes.{little_endian, bytes_of, part, number}
use Rattle.codec.proofs.Numbers.{length-bytes, bytes-value, number-part}
use Rattle.codec.proofs.ByteRanges.{Bytes, bytes_back}
use Rattle.codec.proofs.Parts.{part-second}
use Rattle.sheet_archive.specs.Tables.{header_length, header, number_in, pieces, table_line, table_lines, table_length}
use Rattle.sheet_archive.proofs.Pieces.{pieces-cong, pieces-back, length-pieces, part-piece}

-- the header, and what stands behind it
pub length-header : (t : List ℕ) → header_length ≤ length t → length (header t) ≡ header_length
unfolding header
length-header t l = length-take-le header_length t l

pub header-first : (h rest : List ℕ) → length h ≡ header_length → header (h ++ rest) ≡ h
unfolding header
header-first h rest l = take_at h rest header_length l

-- A LINE
pub length-line : (places : ℕ) (f : ℕ → ℕ) → length (table_line places f) ≡ 4 * places
unfolding table_line
length-line places f = length-pieces 4 (λ j. bytes_of 4 (f j)) (λ j. length-bytes 4 (f j)) places

line-cong : (places : ℕ) (f g : ℕ → ℕ) → ((j : ℕ) → j < places → f j ≡ g j) → table_line places f ≡ table_line places g
unfolding table_line
line-cong places f g e = pieces-cong places (λ j. bytes_of 4 (f j)) (λ j. bytes_of 4 (g j)) (λ j l. ap (bytes_of 4) (e j l))

line-number : (places : ℕ) (f : ℕ → ℕ) (j : ℕ) → j < places → f j < 2 ^ 32 → number 4 (4 * j) (table_line places f) ≡ f j
unfolding table_line number
line-number places f j l b =
    ap little_endian (part-piece 4 (λ i. bytes_of 4 (f i)) (λ i. length-bytes 4 (f i)) places j l) ∙ bytes-value 4 (f j) b

line-of-parts : (places at : ℕ) (s : List ℕ) (f : ℕ → ℕ) → ((j : ℕ) → j < places → part 4 (at + 4 * j) s ≡ bytes_of 4 (f j))
    → table_line places f ≡ part (4 * places) at s
unfolding table_line
line-of-parts places at s f e =
    pieces-cong places (λ j. bytes_of 4 (f j)) (λ j. part 4 (at + 4 * j) s) (λ j l. sym (e j l)) ∙ pieces-back places 4 at s

-- A TABLE
pub length-lines : (n places : ℕ) (f : ℕ → ℕ → ℕ) → length (table_lines n places f) ≡ 4 * places * n
unfolding table_lines
length-lines n places f = length-pieces (4 * places) (λ i. table_line places (f i)) (λ i. length-line places (f i)) n

pub lines-cong : (n places : ℕ) (f g : ℕ → ℕ → ℕ) → ((i j : ℕ) → i < n → j < places → f i j ≡ g i j)
    → table_lines n places f ≡ table_lines n places g
unfolding table_lines
lines-cong n places f g e =
    pieces-cong n (λ i. table_line places (f i)) (λ i. table_line places (g i)) (λ i l. line-cong places (f i) (g i) (λ j. e i j l))

-- the number read is the number written
pub number-in-lines : (n places : ℕ) (h : List ℕ) (f : ℕ → ℕ → ℕ) (i j : ℕ) → length h ≡ header_length → i < n → j < places
    → f i j < 2 ^ 32 → number_in places (h ++ table_lines n places f) i j ≡ f i j
unfolding table_lines number_in
number-in-lines n places h f i j e li lj b =
    ap (λ (at : ℕ). number 4 at (h ++ table)) place
    ∙ sym (number-part 4 (4 * j) (4 * places) (length h + 4 * places * i) (h ++ table) (omega arith))
    ∙ ap (number 4 (4 * j)) (part-second (4 * places) (4 * places * i) h table ∙ here)
    ∙ line-number places (f i) j lj b
  where
    table : List ℕ
    table = pieces n (λ k. table_line places (f k))

    here : part (4 * places) (4 * places * i) table ≡ table_line places (f i)
    here = part-piece (4 * places) (λ k. table_line places (f k)) (λ k. length-line places (f k)) n i li

    place : header_length + 4 * (places * i + j) ≡ length h + 4 * places * i + 4 * j
    place = omega arith

-- a table is its header and the lines of the numbers whose bytes stand in it
pub table-of-parts : (n places : ℕ) (t : List ℕ) (f : ℕ → ℕ → ℕ) → length t ≡ table_length n places
    → ((i j : ℕ) → i < n → j < places → part 4 (header_length + 4 * (places * i + j)) t ≡ bytes_of 4 (f i j))
    → header t ++ table_lines n places f ≡ t
unfolding header table_lines part
table-of-parts n places t f e stands =
    ap (λ (l : List ℕ). take header_length t ++ l) (each ∙ pieces-back n (4 * places) header_length t ∙ all)
    ∙ take-append-drop header_length t
  where
    here : (i : ℕ) → i < n → table_line places (f i) ≡ part (4 * places) (header_length + 4 * places * i) t
    here i l =
        line-of-parts places (header_length + 4 * places * i) t (f i)
        (λ j h.
        let same : header_length + 4 * places * i + 4 * j ≡ header_length + 4 * (places * i + j) = omega arith in
        ap (λ (at : ℕ). part 4 at t) same ∙ stands i j l h)

    each : pieces n (λ i. table_line places (f i)) ≡ pieces n (λ i. part (4 * places) (header_length + 4 * places * i) t)
    each = pieces-cong n (λ i. table_line places (f i)) (λ i. part (4 * places) (header_length + 4 * places * i) t) here

    all : part (4 * places * n) header_length t ≡ drop header_length t
    all = take_all (4 * places * n) (drop header_length t) (rw length-drop (omega arith))

-- a table put together from its own numbers
pub table-back : (n places : ℕ) (t : List ℕ) → length t ≡ table_length n places → Bytes t
    → header t ++ table_lines n places (number_in places t) ≡ t
unfolding number_in
table-back n places t e b =
    table-of-parts n places t (number_in places t) e
    (λ i j l h.
    let m : places * suc i ≤ places * n = mul-le-mul_left places l in
    let room : header_length + 4 * (places * i + j) + 4 ≤ length t = omega (arith, mul-suc places i) in
    sym (bytes_back 4 (header_length + 4 * (places * i + j)) t room b))
