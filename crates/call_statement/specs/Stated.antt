-- The sums that a statement answers: "A refusal .. answers zeros beside its number".
use Rattle.std.specs.Prelude.{ℕ, cond, List, eqb, pos}
use Rattle.units.specs.Units.{ticks}
use Rattle.account_steps.specs.Account.{balance}
use Rattle.chains.specs.Statements.{statement_at}
use Rattle.book_rules.specs.Find.{find_user}
use Rattle.statements.specs.declared.Sums.{Sums}
use Rattle.statements.specs.InnerWalk.{sums_of}

unfoldable pub no_statement : Sums
no_statement =
    record {
      open_year = 0;
      credit = ticks 0;
      value = ticks 0;
      cost = ticks 0;
      flat_rate = ticks 0;
      contribution = ticks 0;
      liquidation = ticks 0;
      lapsed = ticks 0;
      balance = balance (pos 0);
      advances = ticks 0;
      closed_advances = ticks 0;
    }

unfoldable pub sums_stated : List ℕ → ℕ → ℕ → Sums
sums_stated b number refusal = cond (eqb refusal 0) (sums_of (statement_at b (find_user b number))) no_statement
