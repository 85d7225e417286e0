-- It calls itself with a tenth of the number; the measure is the number.
use Rattle.amounts.proofs.+put_whole.Given as goal

abbrev pub decreases-put_whole : goal.decreases-put_whole
decreases-put_whole l = l.n
