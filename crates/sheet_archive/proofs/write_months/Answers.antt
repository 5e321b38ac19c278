-- After each turn four columns more stand in the sheet.
use Rattle.std.proofs.Common.{◌≡◌, refl, ◌∙◌, arith, rules}
use Rattle.sheet_archive.specs.Archive.{sheet_of}
use Rattle.sheet_archive.proofs.Restoring.{restored-none, restored-whole}
use Rattle.sheet_archive.proofs.write_months.Goals as goal

pub loop-four-init : goal.loop-four-init
loop-four-init c =
    let a = c.args in
    let h = c.copy_header in
    record {
      within = search rules;
      long = search rules;
      same = refl;
      restored = restored-none a.archive.now h.new.to a.sheet.now (search rules) (h.auto.to ∙ c.requires) h.ensures;
    }

pub returns : goal.returns
unfolding sheet_of
returns c =
    let l = c.loop-four in
    let end : l.four ≡ 6 = omega arith in
    restored-whole c.args.archive.now l.sheet (rw end at l.invariant.restored)
