-- By words, and then byte by byte, what stands within the string is zero.
use Rattle.std.proofs.Common.{◌∙◌, ◌≡◌, ◌+◌, ◌*◌, ◌/◌, ◌-◌, ◌<◌, ◌≤◌, ℕ, List, length, arith, ap, length-take, length-drop}
use lib.ListN.{get_or, take, drop}
use Rattle.std.proofs.lemmas.List.{get_or-take, get_or-drop}
use Rattle.codec.specs.Bytes.{zeros}
use Rattle.codec.proofs.ZeroBytes.{zeros_none, zeros_next, zeros_within}
use Rattle.codec.proofs.ZeroWords.{word_next}
use Rattle.codec.proofs.zeros.Goals as goal

-- the stretch that stands within the string has its whole length
stretch-length : (from count first end : ℕ) (s : List ℕ) → end ≡ Prim.Native.Nat.min (from + count) (length s) → first ≡ Prim.Native.Nat.min from end
    → length (take (end - first) (drop first s)) ≡ end - first
stretch-length from count first end s e f = rw (length-take, length-drop) (omega (arith, e, f))

pub loop-word-init : goal.loop-word-init
loop-word-init c = zeros_none c.min-first.result c.args.s.now

pub loop-word-preserved : goal.loop-word-preserved
loop-word-preserved c =
    let n : ℕ = c.min-end.result - c.min-first.result in
    let whole = stretch-length c.args.from c.args.count c.min-first.result c.min-end.result c.args.s.now c.min-end.ensures c.min-first.ensures in
    let words = rw whole at c.as_chunks.ensures.front_len in
    let less : c.loop-word.word-index < n / 8 = omega (arith, words, c.loop-word-test.true) in
    let within : c.loop-word.word-index * 8 + 8 ≤ n = omega (arith, less) in
    let front = rw whole at c.as_chunks.ensures.front in
    word_next 8 (n / 8) c.loop-word.word-index c.min-first.result n c.args.s.now less within c.loop-word.invariant (rw front at c.load.ensures)

pub loop-b-preserved : goal.loop-b-preserved
loop-b-preserved c =
    let n : ℕ = c.min-end.result - c.min-first.result in
    let whole = stretch-length c.args.from c.args.count c.min-first.result c.min-end.result c.args.s.now c.min-end.ensures c.min-first.ensures in
    let bytes = rw whole at c.as_chunks.ensures.back_len in
    let back = rw whole at c.as_chunks.ensures.back in
    let b : ℕ = c.loop-b.b-index in
    let room : n / 8 * 8 + b < n = omega (arith, bytes, c.loop-b-test.true) in
    let next : n / 8 * 8 + b + 1 ≡ n / 8 * 8 + (b + 1) = omega arith in
    let byte : get_or c.as_chunks.result.1.now b 0 ≡ get_or c.args.s.now (c.min-first.result + (n / 8 * 8 + b)) 0 =
    rw back (get_or-drop (n / 8 * 8) (take n (drop c.min-first.result c.args.s.now)) b 0
    ∙ get_or-take n _ (n / 8 * 8 + b) 0 room ∙ get_or-drop c.min-first.result c.args.s.now (n / 8 * 8 + b) 0) in
    zeros_next c.min-first.result (n / 8 * 8 + b) c.args.s.now c.loop-b.invariant byte
    ∙ ap (λ (k : ℕ). zeros c.min-first.result k c.args.s.now) next

pub returns : goal.returns
returns c =
    let n : ℕ = c.min-end.result - c.min-first.result in
    let whole = stretch-length c.args.from c.args.count c.min-first.result c.min-end.result c.args.s.now c.min-end.ensures c.min-first.ensures in
    let bytes = rw whole at c.as_chunks.ensures.back_len in
    let all : n / 8 * 8 + c.loop-b.b-index ≡ n = omega (arith, bytes, c.loop-b.auto.b-index-end, c.loop-b-test.false) in
    rw all at c.loop-b.invariant
    ∙ zeros_within c.args.from c.args.count c.min-first.result c.min-end.result c.args.s.now c.min-end.ensures c.min-first.ensures
