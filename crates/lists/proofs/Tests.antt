-- The set that closes a `returns` whose definition tests in the same order as the code: `search tests`.
-- Assumes nothing.
use borrow.Author.Tests.{le-leb, lt-leb, le-ltb, lt-ltb, eq-eqb, ne_eqb}
use lib.ListN.{get_or-eq_default}

pub ruleset tests = (le-leb, lt-leb, le-ltb, lt-ltb, eq-eqb, ne_eqb, get_or-eq_default)
