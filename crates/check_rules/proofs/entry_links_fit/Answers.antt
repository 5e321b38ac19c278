-- The links of an entry by the records that they lead to, each by its fields.
use Rattle.std.proofs.Common.{rules}
use Rattle.book_rules.specs.Book.{owner_fits, entry_next_fits, next_in_order, in_order, has_kind, is_entry, kind_at, owner_of, next_of, level_of, activation_of, entry_kind}
use Rattle.check_rules.specs.InnerFollows.{follows_entry}
use Rattle.check_rules.proofs.entry_links_fit.Goals as goal

pub returns-then-owner-eq0 : goal.returns-then-owner-eq0
unfolding owner_fits entry_next_fits next_in_order in_order has_kind is_entry kind_at owner_of next_of level_of activation_of entry_kind follows_entry
returns-then-owner-eq0 c = search rules

pub returns-then-not-is_of : goal.returns-then-not-is_of
unfolding owner_fits entry_next_fits next_in_order in_order has_kind is_entry kind_at owner_of next_of level_of activation_of entry_kind follows_entry
returns-then-not-is_of c = search rules

pub returns-then-next-eq0 : goal.returns-then-next-eq0
unfolding owner_fits entry_next_fits next_in_order in_order has_kind is_entry kind_at owner_of next_of level_of activation_of entry_kind follows_entry
returns-then-next-eq0 c = search rules

pub returns-then-le-2 : goal.returns-then-le-2
unfolding owner_fits entry_next_fits next_in_order in_order has_kind is_entry kind_at owner_of next_of level_of activation_of entry_kind follows_entry
returns-then-le-2 c = search rules

pub returns : goal.returns
unfolding owner_fits entry_next_fits next_in_order in_order has_kind is_entry kind_at owner_of next_of level_of activation_of entry_kind follows_entry
returns c = search rules
