-- `putting::names::put_name` meets its contract: an arm for each name, and the last for any other number.
-- Assumes nothing.
use Rattle.std.proofs.Common.{rules}
use Rattle.elements.specs.Names.{names}
use Rattle.layouts.specs.Layout.{element_name}
use Rattle.putting.specs.Sheet.{name_text, later_text}
use Rattle.putting.proofs.Landing.{took, told}
use Rattle.putting.proofs.Arms.{NoneFrom, arm, later-named}
use Rattle.putting.proofs.names.put_name.Goals as goal

pub returns-in-1 : goal.returns-in-1
unfolding name_text element_name names
returns-in-1 c = let it = arm name_text c.in-1.is (took (name_text 1) (c.put_bytes.ensures.answer, c.put_bytes.ensures.buffer)) in record { answer = it.0; buffer = it.1 }

pub returns-in-2 : goal.returns-in-2
unfolding name_text element_name names
returns-in-2 c = let it = arm name_text c.in-2.is (took (name_text 2) (c.put_bytes-in-2.ensures.answer, c.put_bytes-in-2.ensures.buffer)) in record { answer = it.0; buffer = it.1 }

pub returns-in-3 : goal.returns-in-3
unfolding name_text element_name names
returns-in-3 c = let it = arm name_text c.in-3.is (took (name_text 3) (c.put_bytes-in-3.ensures.answer, c.put_bytes-in-3.ensures.buffer)) in record { answer = it.0; buffer = it.1 }

pub returns-in-4 : goal.returns-in-4
unfolding name_text element_name names
returns-in-4 c = let it = arm name_text c.in-4.is (took (name_text 4) (c.put_bytes-in-4.ensures.answer, c.put_bytes-in-4.ensures.buffer)) in record { answer = it.0; buffer = it.1 }

pub returns-in-5 : goal.returns-in-5
unfolding name_text element_name names
returns-in-5 c = let it = arm name_text c.in-5.is (took (name_text 5) (c.put_bytes-in-5.ensures.answer, c.put_bytes-in-5.ensures.buffer)) in record { answer = it.0; buffer = it.1 }

pub returns-in-6 : goal.returns-in-6
unfolding name_text element_name names
returns-in-6 c = let it = arm name_text c.in-6.is (took (name_text 6) (c.put_bytes-in-6.ensures.answer, c.put_bytes-in-6.ensures.buffer)) in record { answer = it.0; buffer = it.1 }

pub returns-in-7 : goal.returns-in-7
unfolding name_text element_name names
returns-in-7 c = let it = arm name_text c.in-7.is (took (name_text 7) (c.put_bytes-in-7.ensures.answer, c.put_bytes-in-7.ensures.buffer)) in record { answer = it.0; buffer = it.1 }

pub returns-in-8 : goal.returns-in-8
unfolding name_text element_name names
returns-in-8 c = let it = arm name_text c.in-8.is (took (name_text 8) (c.put_bytes-in-8.ensures.answer, c.put_bytes-in-8.ensures.buffer)) in record { answer = it.0; buffer = it.1 }

pub returns-in-9 : goal.returns-in-9
unfolding name_text element_name names
returns-in-9 c = let it = arm name_text c.in-9.is (took (name_text 9) (c.put_bytes-in-9.ensures.answer, c.put_bytes-in-9.ensures.buffer)) in record { answer = it.0; buffer = it.1 }

pub returns-in-10 : goal.returns-in-10
unfolding name_text element_name names
returns-in-10 c = let it = arm name_text c.in-10.is (took (name_text 10) (c.put_bytes-in-10.ensures.answer, c.put_bytes-in-10.ensures.buffer)) in record { answer = it.0; buffer = it.1 }

pub returns-in-11 : goal.returns-in-11
unfolding name_text element_name names
returns-in-11 c = let it = arm name_text c.in-11.is (took (name_text 11) (c.put_bytes-in-11.ensures.answer, c.put_bytes-in-11.ensures.buffer)) in record { answer = it.0; buffer = it.1 }

pub returns-in-12 : goal.returns-in-12
unfolding name_text element_name names
returns-in-12 c = let it = arm name_text c.in-12.is (took (name_text 12) (c.put_bytes-in-12.ensures.answer, c.put_bytes-in-12.ensures.buffer)) in record { answer = it.0; buffer = it.1 }

pub returns-in-13 : goal.returns-in-13
unfolding name_text element_name names
returns-in-13 c = let it = arm name_text c.in-13.is (took (name_text 13) (c.put_bytes-in-13.ensures.answer, c.put_bytes-in-13.ensures.buffer)) in record { answer = it.0; buffer = it.1 }

pub returns-in-14 : goal.returns-in-14
unfolding name_text element_name names
returns-in-14 c = let it = arm name_text c.in-14.is (took (name_text 14) (c.put_bytes-in-14.ensures.answer, c.put_bytes-in-14.ensures.buffer)) in record { answer = it.0; buffer = it.1 }

pub returns-in-15 : goal.returns-in-15
unfolding name_text element_name names
returns-in-15 c = let it = arm name_text c.in-15.is (took (name_text 15) (c.put_bytes-in-15.ensures.answer, c.put_bytes-in-15.ensures.buffer)) in record { answer = it.0; buffer = it.1 }

pub returns-in-16 : goal.returns-in-16
unfolding name_text element_name names
returns-in-16 c = let it = arm name_text c.in-16.is (took (name_text 16) (c.put_bytes-in-16.ensures.answer, c.put_bytes-in-16.ensures.buffer)) in record { answer = it.0; buffer = it.1 }

pub returns-in-17 : goal.returns-in-17
unfolding name_text element_name names
returns-in-17 c = let it = arm name_text c.in-17.is (took (name_text 17) (c.put_bytes-in-17.ensures.answer, c.put_bytes-in-17.ensures.buffer)) in record { answer = it.0; buffer = it.1 }

pub returns-in-18 : goal.returns-in-18
unfolding name_text element_name names
returns-in-18 c = let it = arm name_text c.in-18.is (took (name_text 18) (c.put_bytes-in-18.ensures.answer, c.put_bytes-in-18.ensures.buffer)) in record { answer = it.0; buffer = it.1 }

pub returns-in-19 : goal.returns-in-19
unfolding name_text element_name names
returns-in-19 c = let it = arm name_text c.in-19.is (took (name_text 19) (c.put_bytes-in-19.ensures.answer, c.put_bytes-in-19.ensures.buffer)) in record { answer = it.0; buffer = it.1 }

pub returns-in-20 : goal.returns-in-20
unfolding name_text element_name names
returns-in-20 c = let it = arm name_text c.in-20.is (took (name_text 20) (c.put_bytes-in-20.ensures.answer, c.put_bytes-in-20.ensures.buffer)) in record { answer = it.0; buffer = it.1 }

pub returns-in-21 : goal.returns-in-21
unfolding name_text element_name names
returns-in-21 c = let it = arm name_text c.in-21.is (took (name_text 21) (c.put_bytes-in-21.ensures.answer, c.put_bytes-in-21.ensures.buffer)) in record { answer = it.0; buffer = it.1 }

pub returns-in-22 : goal.returns-in-22
unfolding name_text element_name names
returns-in-22 c = let it = arm name_text c.in-22.is (took (name_text 22) (c.put_bytes-in-22.ensures.answer, c.put_bytes-in-22.ensures.buffer)) in record { answer = it.0; buffer = it.1 }

pub returns-in-23 : goal.returns-in-23
unfolding name_text element_name names
returns-in-23 c = let it = arm name_text c.in-23.is (took (name_text 23) (c.put_bytes-in-23.ensures.answer, c.put_bytes-in-23.ensures.buffer)) in record { answer = it.0; buffer = it.1 }

pub returns-in-24 : goal.returns-in-24
unfolding name_text element_name names
returns-in-24 c = let it = arm name_text c.in-24.is (took (name_text 24) (c.put_bytes-in-24.ensures.answer, c.put_bytes-in-24.ensures.buffer)) in record { answer = it.0; buffer = it.1 }

pub returns-in-25 : goal.returns-in-25
unfolding name_text element_name names
returns-in-25 c = let it = arm name_text c.in-25.is (took (name_text 25) (c.put_bytes-in-25.ensures.answer, c.put_bytes-in-25.ensures.buffer)) in record { answer = it.0; buffer = it.1 }

pub returns-in-26 : goal.returns-in-26
unfolding name_text element_name names
returns-in-26 c = let it = arm name_text c.in-26.is (took (name_text 26) (c.put_bytes-in-26.ensures.answer, c.put_bytes-in-26.ensures.buffer)) in record { answer = it.0; buffer = it.1 }

pub returns-in-27 : goal.returns-in-27
unfolding name_text element_name names
returns-in-27 c = let it = arm name_text c.in-27.is (took (name_text 27) (c.put_bytes-in-27.ensures.answer, c.put_bytes-in-27.ensures.buffer)) in record { answer = it.0; buffer = it.1 }

pub returns-in-28 : goal.returns-in-28
unfolding name_text element_name names
returns-in-28 c = let it = arm name_text c.in-28.is (took (name_text 28) (c.put_bytes-in-28.ensures.answer, c.put_bytes-in-28.ensures.buffer)) in record { answer = it.0; buffer = it.1 }

pub returns-in-29 : goal.returns-in-29
unfolding name_text element_name names
returns-in-29 c = let it = arm name_text c.in-29.is (took (name_text 29) (c.put_bytes-in-29.ensures.answer, c.put_bytes-in-29.ensures.buffer)) in record { answer = it.0; buffer = it.1 }

pub returns-in-30 : goal.returns-in-30
unfolding name_text element_name names
returns-in-30 c = let it = arm name_text c.in-30.is (took (name_text 30) (c.put_bytes-in-30.ensures.answer, c.put_bytes-in-30.ensures.buffer)) in record { answer = it.0; buffer = it.1 }

pub returns-in-31 : goal.returns-in-31
unfolding name_text element_name names
returns-in-31 c = let it = arm name_text c.in-31.is (took (name_text 31) (c.put_bytes-in-31.ensures.answer, c.put_bytes-in-31.ensures.buffer)) in record { answer = it.0; buffer = it.1 }

pub returns-in_default : goal.returns-in_default
returns-in_default c = let none : NoneFrom 1 31 c.args.e = search rules in let it = told (later-named _ none) (took (later_text _) (c.put_later_name.ensures.answer, c.put_later_name.ensures.buffer)) in record { answer = it.0; buffer = it.1 }
