-- `report::Text::put_decimal` meets its contract: the digits of the tenth part are put, and the last digit behind them. The measure is the
-- number. Assumes nothing.
use Rattle.report.proofs.Text.+put_decimal.Given as goal

abbrev pub decreases-put_decimal : goal.decreases-put_decimal
decreases-put_decimal l = l.n
