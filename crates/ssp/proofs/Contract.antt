-- What the contract of each exported function says, of every call: a the arguments, r the answer, s the arguments at the end.
use mathlib.Core.Path.{◌≡◌}
use Rattle.sheet_archive.specs.Archive.{size_answer, archive_after, restored_after}
use Rattle.sheet_losses.specs.Losses.{answer_of, raised_after}
use Rattle.sheet_text.specs.Reading.{read_answer, read_after}
use Rattle.sheet_text.specs.Writing.{write_answer, buffer_after}
use Rattle.book_rules.specs.Book.{used}
use Rattle.book_rules.specs.Find.{find_user}
use Rattle.check_book.specs.Verdicts.{fresh_answer, fresh_after}
use Rattle.sheet.specs.YearSheet.{Tells}
use Rattle.call_rules.specs.Calls.{enrol, elect, charge, advance, close, statement}
use Rattle.call_answers.specs.Answers.{Answered}
use Rattle.call_advance.specs.Advances.{ticks_answered}
use Rattle.call_close.specs.Closings.{sums_answered}
use Rattle.call_statement.specs.Stated.{sums_stated}
use Rattle.ssp.specs.Flat.{interface_number, details_of, position_of, flat_closed, flat_sums, flat_read, flat_written, flat_raised}
use Rattle.call_answers.specs.Answers.{AnsweredBy}
use Rattle.call_more_sun.specs.Asked.{more_sun_order, addition_answered}
use Rattle.ssp.specs.FlatSun.{flat_sun}
use Rattle.ssp.proofs.ssp_interface.Reads as interface-of
use Rattle.ssp.proofs.ssp_fresh.Reads as fresh-of
use Rattle.ssp.proofs.ssp_enrol.Reads as enrol-of
use Rattle.ssp.proofs.ssp_elect.Reads as elect-of
use Rattle.ssp.proofs.ssp_charge.Reads as charge-of
use Rattle.ssp.proofs.ssp_advance.Reads as advance-of
use Rattle.ssp.proofs.ssp_close.Reads as close-of
use Rattle.ssp.proofs.ssp_statement.Reads as statement-of
use Rattle.ssp.proofs.ssp_archive.Reads as archive-of
use Rattle.ssp.proofs.ssp_restore.Reads as restore-of
use Rattle.ssp.proofs.ssp_raise.Reads as raise-of
use Rattle.ssp.proofs.ssp_read_measures.Reads as read-of
use Rattle.ssp.proofs.ssp_write_measures.Reads as write-of
use Rattle.ssp.proofs.ssp_more_sun.Reads as more-sun-of

pub interface-says : (κs : _) (a : _) (r : _) (s : _) → interface-of.Post κs a r s → r ≡ interface_number
interface-says κs a r s said = said

pub fresh-says : (κs : _) (a : _) (r : _) (s : _) → fresh-of.Post κs a r s → (r ≡ fresh_answer a.0.now) × (s.0.now ≡ fresh_after a.0.now)
fresh-says κs a r s said = said

pub enrol-says : (κs : _) (a : _) (r : _) (s : _) → enrol-of.Post κs a r s
    → Answered a.0.now (enrol a.1.0 (details_of a.1.1.0 a.1.1.1.0 a.1.1.1.1.1.0 a.1.1.1.1.1.1.0 a.1.1.1.1.1.1.1.0 a.1.1.1.1.1.1.1.1.0)
    a.1.1.1.1.0) (used a.0.now) r.refusal r.«record» s.0.now
enrol-says κs a r s said = said

pub elect-says : (κs : _) (a : _) (r : _) (s : _) → elect-of.Post κs a r s
    → Answered a.0.now (elect a.1.0 a.1.1.0 a.1.1.1.0 a.1.1.1.1.0 a.1.1.1.1.1.0) 0 r.refusal r.«record» s.0.now
elect-says κs a r s said = said

pub charge-says : (κs : _) (a : _) (r : _) (s : _) → charge-of.Post κs a r s
    → Answered a.0.now (charge a.1.0) (find_user a.0.now a.1.0) r.refusal r.«record» s.0.now
charge-says κs a r s said = said

pub advance-says : (κs : _) (a : _) (r : _) (s : _) → advance-of.Post κs a r s
    → Answered a.0.now (advance a.1.0 a.1.1.0 a.1.1.1.0 a.1.1.1.1.0 a.1.1.1.1.1.0 a.1.1.1.1.1.1.0) 0 r.refusal r.«record» s.0.now
    × (r.ticks ≡ (ticks_answered a.0.now a.1.0 a.1.1.0 a.1.1.1.0 a.1.1.1.1.0 a.1.1.1.1.1.0 a.1.1.1.1.1.1.0 r.refusal).0)
advance-says κs a r s said = said

pub close-says : (κs : _) (a : _) (r : _) (s : _) → close-of.Post κs a r s
    → Answered a.0.now (close a.1.0.now) 0 r.refusal r.«record» s.0.now
    × (Tells a.1.0.now r.refusal (position_of r.month r.place)
    × (r ≡ flat_closed r.refusal r.«record» (position_of r.month r.place) (sums_answered a.0.now a.1.0.now r.refusal)))
close-says κs a r s said = said

pub statement-says : (κs : _) (a : _) (r : _) (s : _) → statement-of.Post κs a r s
    → Answered a.0.now (statement a.1.0) 0 r.refusal r.«record» a.0.now
    × (r ≡ flat_sums r.refusal r.«record» (sums_stated a.0.now a.1.0 r.refusal))
statement-says κs a r s said = said

pub archive-says : (κs : _) (a : _) (r : _) (s : _) → archive-of.Post κs a r s
    → (r ≡ size_answer a.0.now a.1.0.now) × (s.1.0.now ≡ archive_after a.0.now a.1.0.now)
archive-says κs a r s said = said

pub restore-says : (κs : _) (a : _) (r : _) (s : _) → restore-of.Post κs a r s
    → (r ≡ size_answer a.0.now a.1.0.now) × (s.1.0.now ≡ restored_after a.0.now a.1.0.now)
restore-says κs a r s said = said

pub raise-says : (κs : _) (a : _) (r : _) (s : _) → raise-of.Post κs a r s
    → (r ≡ flat_raised (answer_of a.1.0 a.0.now)) × (s.0.now ≡ raised_after a.1.0 a.0.now)
raise-says κs a r s said = said

pub read-says : (κs : _) (a : _) (r : _) (s : _) → read-of.Post κs a r s
    → (r ≡ flat_read (read_answer a.0.now a.1.0.now)) × (s.0.now ≡ read_after a.0.now a.1.0.now)
read-says κs a r s said = said

pub write-says : (κs : _) (a : _) (r : _) (s : _) → write-of.Post κs a r s
    → (r ≡ flat_written (write_answer a.0.now a.1.0.now)) × (s.1.0.now ≡ buffer_after a.0.now a.1.0.now)
write-says κs a r s said = said

pub more-sun-says : (κs : _) (a : _) (r : _) (s : _) → more-sun-of.Post κs a r s
    → AnsweredBy a.0.now (more_sun_order a.0.now a.1.0.now a.1.1.0 a.1.1.1.0) 0 r.refusal r.«record»
    × (Tells a.1.0.now r.refusal (position_of r.month r.place)
    × (r ≡ flat_sun r.refusal r.«record» (position_of r.month r.place) (addition_answered a.0.now a.1.0.now a.1.1.0 a.1.1.1.0 r.refusal)))
more-sun-says κs a r s said = said
