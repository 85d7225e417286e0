-- An arm for each list, whatever codes it has. Assumes nothing.
use Rattle.lists.proofs.Cases.{past_all}
use Rattle.codes.specs.Lists.{lists, codes_of, listed}
use Rattle.codes.specs.Words.{words_after}
use Rattle.codes.proofs.Rows.{none-listed}
use Rattle.codes.proofs.is_listed.Goals as goal

pub returns-in-0 : goal.returns-in-0
unfolding codes_of lists listed words_after
returns-in-0 c = rw c.in-0.is c.is_among.ensures

pub returns-in-1 : goal.returns-in-1
unfolding codes_of lists listed words_after
returns-in-1 c = rw c.in-1.is c.is_among-in-1.ensures

pub returns-in-2 : goal.returns-in-2
unfolding codes_of lists listed words_after
returns-in-2 c = rw c.in-2.is c.is_among-in-2.ensures

pub returns-in-3 : goal.returns-in-3
unfolding codes_of lists listed words_after
returns-in-3 c = rw c.in-3.is c.is_among-in-3.ensures

pub returns-in-4 : goal.returns-in-4
unfolding codes_of lists listed words_after
returns-in-4 c = rw c.in-4.is c.is_among-in-4.ensures

pub returns-in-5 : goal.returns-in-5
unfolding codes_of lists listed words_after
returns-in-5 c = rw c.in-5.is c.is_among-in-5.ensures

pub returns-in-6 : goal.returns-in-6
unfolding codes_of lists listed words_after
returns-in-6 c = rw c.in-6.is c.is_among-in-6.ensures

pub returns-in-7 : goal.returns-in-7
unfolding codes_of lists listed words_after
returns-in-7 c = rw c.in-7.is c.is_among-in-7.ensures

pub returns-in-8 : goal.returns-in-8
unfolding codes_of lists listed words_after
returns-in-8 c = rw c.in-8.is c.is_among-in-8.ensures

pub returns-in-9 : goal.returns-in-9
unfolding codes_of lists listed words_after
returns-in-9 c = rw c.in-9.is c.is_among-in-9.ensures

pub returns-in-10 : goal.returns-in-10
unfolding codes_of lists listed words_after
returns-in-10 c = rw c.in-10.is c.is_among-in-10.ensures

pub returns-in-11 : goal.returns-in-11
unfolding codes_of lists listed words_after
returns-in-11 c = rw c.in-11.is c.is_among-in-11.ensures

pub returns-in-12 : goal.returns-in-12
unfolding codes_of lists listed words_after
returns-in-12 c = rw c.in-12.is c.is_among-in-12.ensures

pub returns-in-13 : goal.returns-in-13
unfolding codes_of lists listed words_after
returns-in-13 c = rw c.in-13.is c.is_among-in-13.ensures

pub returns-in-14 : goal.returns-in-14
unfolding codes_of lists listed words_after
returns-in-14 c = rw c.in-14.is c.is_among-in-14.ensures

pub returns-in-15 : goal.returns-in-15
unfolding codes_of lists listed words_after
returns-in-15 c = rw c.in-15.is c.is_among-in-15.ensures

pub returns-in-16 : goal.returns-in-16
unfolding codes_of lists listed words_after
returns-in-16 c = rw c.in-16.is c.is_among-in-16.ensures

pub returns-in-17 : goal.returns-in-17
unfolding codes_of lists listed words_after
returns-in-17 c = rw c.in-17.is c.is_among-in-17.ensures

pub returns-in-18 : goal.returns-in-18
unfolding codes_of lists listed words_after
returns-in-18 c = rw c.in-18.is c.is_among-in-18.ensures

pub returns-in-19 : goal.returns-in-19
unfolding codes_of lists listed words_after
returns-in-19 c = rw c.in-19.is c.is_among-in-19.ensures

pub returns-in-20 : goal.returns-in-20
unfolding codes_of lists listed words_after
returns-in-20 c = rw c.in-20.is c.is_among-in-20.ensures

pub returns-in-21 : goal.returns-in-21
unfolding codes_of lists listed words_after
returns-in-21 c = rw c.in-21.is c.is_among-in-21.ensures

pub returns-in-22 : goal.returns-in-22
unfolding codes_of lists listed words_after
returns-in-22 c = rw c.in-22.is c.is_among-in-22.ensures

pub returns-in_default : goal.returns-in_default
unfolding codes_of lists listed words_after
returns-in_default c = none-listed _ _ (past_all 23 _ c.in_default.in_default-own.rest)
