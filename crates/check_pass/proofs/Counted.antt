-- A book has as many records in use as a book can have, at most: for searches.
use Rattle.book_rules.proofs.Faults.{used-counted}

pub ruleset counted = (used-counted)
