-- THE LINK: the contract of an exported function is the contract of the function of `ssp` with its name (`Post κs a r s`: a the
-- arguments, r the answer, s the arguments at the end). So what `theorem_ssp` claims of calls of those, of which no more is known
-- than their contracts, the third demand first, it claims of what other programs link.
use Rattle.std.specs.Prelude.{◌≡◌}
use Rattle.std.proofs.Common.{refl}
use Rattle.ssp.proofs.ssp_interface.Reads as of-interface
use Rattle.ssp.proofs.ssp_fresh.Reads as of-fresh
use Rattle.ssp.proofs.ssp_enrol.Reads as of-enrol
use Rattle.ssp.proofs.ssp_elect.Reads as of-elect
use Rattle.ssp.proofs.ssp_charge.Reads as of-charge
use Rattle.ssp.proofs.ssp_advance.Reads as of-advance
use Rattle.ssp.proofs.ssp_close.Reads as of-close
use Rattle.ssp.proofs.ssp_statement.Reads as of-statement
use Rattle.ssp.proofs.ssp_archive.Reads as of-archive
use Rattle.ssp.proofs.ssp_restore.Reads as of-restore
use Rattle.ssp.proofs.ssp_raise.Reads as of-raise
use Rattle.ssp.proofs.ssp_read_measures.Reads as of-read-measures
use Rattle.ssp.proofs.ssp_write_measures.Reads as of-write-measures
use Rattle.ssp.proofs.ssp_more_sun.Reads as of-more-sun
use Rattle.ssp_c.proofs.ssp_interface.Reads as linked-interface
use Rattle.ssp_c.proofs.ssp_fresh.Reads as linked-fresh
use Rattle.ssp_c.proofs.ssp_enrol.Reads as linked-enrol
use Rattle.ssp_c.proofs.ssp_elect.Reads as linked-elect
use Rattle.ssp_c.proofs.ssp_charge.Reads as linked-charge
use Rattle.ssp_c.proofs.ssp_advance.Reads as linked-advance
use Rattle.ssp_c.proofs.ssp_close.Reads as linked-close
use Rattle.ssp_c.proofs.ssp_statement.Reads as linked-statement
use Rattle.ssp_c.proofs.ssp_archive.Reads as linked-archive
use Rattle.ssp_c.proofs.ssp_restore.Reads as linked-restore
use Rattle.ssp_c.proofs.ssp_raise.Reads as linked-raise
use Rattle.ssp_c.proofs.ssp_read_measures.Reads as linked-read-measures
use Rattle.ssp_c.proofs.ssp_write_measures.Reads as linked-write-measures
use Rattle.ssp_c.proofs.ssp_more_sun.Reads as linked-more-sun

pub interface-linked : (κs : _) (a : _) (r : _) (s : _) → linked-interface.Post κs a r s ≡ of-interface.Post κs a r s
interface-linked κs a r s = refl

pub fresh-linked : (κs : _) (a : _) (r : _) (s : _) → linked-fresh.Post κs a r s ≡ of-fresh.Post κs a r s
fresh-linked κs a r s = refl

pub enrol-linked : (κs : _) (a : _) (r : _) (s : _) → linked-enrol.Post κs a r s ≡ of-enrol.Post κs a r s
enrol-linked κs a r s = refl

pub elect-linked : (κs : _) (a : _) (r : _) (s : _) → linked-elect.Post κs a r s ≡ of-elect.Post κs a r s
elect-linked κs a r s = refl

pub charge-linked : (κs : _) (a : _) (r : _) (s : _) → linked-charge.Post κs a r s ≡ of-charge.Post κs a r s
charge-linked κs a r s = refl

pub advance-linked : (κs : _) (a : _) (r : _) (s : _) → linked-advance.Post κs a r s ≡ of-advance.Post κs a r s
advance-linked κs a r s = refl

pub close-linked : (κs : _) (a : _) (r : _) (s : _) → linked-close.Post κs a r s ≡ of-close.Post κs a r s
close-linked κs a r s = refl

pub statement-linked : (κs : _) (a : _) (r : _) (s : _) → linked-statement.Post κs a r s ≡ of-statement.Post κs a r s
statement-linked κs a r s = refl

pub archive-linked : (κs : _) (a : _) (r : _) (s : _) → linked-archive.Post κs a r s ≡ of-archive.Post κs a r s
archive-linked κs a r s = refl

pub restore-linked : (κs : _) (a : _) (r : _) (s : _) → linked-restore.Post κs a r s ≡ of-restore.Post κs a r s
restore-linked κs a r s = refl

pub raise-linked : (κs : _) (a : _) (r : _) (s : _) → linked-raise.Post κs a r s ≡ of-raise.Post κs a r s
raise-linked κs a r s = refl

pub read-measures-linked : (κs : _) (a : _) (r : _) (s : _) → linked-read-measures.Post κs a r s ≡ of-read-measures.Post κs a r s
read-measures-linked κs a r s = refl

pub write-measures-linked : (κs : _) (a : _) (r : _) (s : _) → linked-write-measures.Post κs a r s ≡ of-write-measures.Post κs a r s
write-measures-linked κs a r s = refl

pub more-sun-linked : (κs : _) (a : _) (r : _) (s : _) → linked-more-sun.Post κs a r s ≡ of-more-sun.Post κs a r s
more-sun-linked κs a r s = refl
