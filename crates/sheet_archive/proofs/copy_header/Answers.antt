-- The first 32 bytes of the one for those of the other.
use Rattle.std.proofs.Common.{arith, ◌≡◌, length, take, length-take}
use Rattle.codec.specs.Bytes.{stored}
use Rattle.sheet_archive.specs.Tables.{header}
use Rattle.sheet_archive.proofs.copy_header.Goals as goal

pub slice_bounds-copy_from_slice-end-2 : goal.slice_bounds-copy_from_slice-end-2
slice_bounds-copy_from_slice-end-2 c = rw length-take (omega (arith, c.requires))

pub slice_bounds-copy_from_slice-end-3 : goal.slice_bounds-copy_from_slice-end-3
slice_bounds-copy_from_slice-end-3 c = rw length-take (omega arith)

pub copy_from_slice-requires : goal.copy_from_slice-requires
copy_from_slice-requires c = rw (length-take, length-take) (omega (arith, c.requires))

pub returns : goal.returns
unfolding stored header
returns c =
    let long : length (take 32 c.args.from.now) ≡ 32 = rw length-take (omega arith) in
    rw (c.copy_from_slice.ensures.after, long)
