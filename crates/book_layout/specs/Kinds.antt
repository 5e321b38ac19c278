-- "kind 1" of a user, "kind (2 advance, 3 closing)" of an entry: the number of each kind, the kind of each number, and the bytes that
-- no field of a record of it names.
use Rattle.std.specs.Prelude.{ℕ, cond, List, eqb, Option, Some, None}
use Rattle.book_layout.specs.Fields.{Field, user_kind, advance_kind, closing_kind}
use Rattle.book_layout.specs.Fields.{unnamed_of_user, unnamed_of_advance, unnamed_of_closing}
use Rattle.book_layout.specs.declared.kind.Kind.{Kind}
use Rattle.book_layout.specs.declared.kind.Kind.TheVariants.{User, Advance, Closing}

abbrev pub kind_number : Kind → ℕ
kind_number User = user_kind
kind_number Advance = advance_kind
kind_number Closing = closing_kind

unfoldable pub kind_named : ℕ → Option Kind
kind_named number =
    cond (eqb number user_kind) (Some User)
    (cond (eqb number advance_kind) (Some Advance) (cond (eqb number closing_kind) (Some Closing) None))

abbrev pub unnamed_in : Kind → List Field
unnamed_in User = unnamed_of_user
unnamed_in Advance = unnamed_of_advance
unnamed_in Closing = unnamed_of_closing
