-- `putting::names::put_later_name` meets its contract: an arm for each name, and the last for any other number.
-- Assumes nothing.
use Rattle.std.proofs.Common.{rules}
use Rattle.elements.specs.Names.{names}
use Rattle.layouts.specs.Layout.{element_name}
use Rattle.putting.specs.Sheet.{name_text, later_text}
use Rattle.putting.proofs.Landing.{took, told, put-none}
use Rattle.putting.proofs.Arms.{NoneFrom, arm, none-later}
use Rattle.putting.proofs.names.put_later_name.Goals as goal

pub returns-in-32 : goal.returns-in-32
unfolding later_text name_text element_name names
returns-in-32 c = let it = arm later_text c.in-32.is (took (later_text 32) (c.put_bytes.ensures.answer, c.put_bytes.ensures.buffer)) in record { answer = it.0; buffer = it.1 }

pub returns-in-33 : goal.returns-in-33
unfolding later_text name_text element_name names
returns-in-33 c = let it = arm later_text c.in-33.is (took (later_text 33) (c.put_bytes-in-33.ensures.answer, c.put_bytes-in-33.ensures.buffer)) in record { answer = it.0; buffer = it.1 }

pub returns-in-34 : goal.returns-in-34
unfolding later_text name_text element_name names
returns-in-34 c = let it = arm later_text c.in-34.is (took (later_text 34) (c.put_bytes-in-34.ensures.answer, c.put_bytes-in-34.ensures.buffer)) in record { answer = it.0; buffer = it.1 }

pub returns-in-35 : goal.returns-in-35
unfolding later_text name_text element_name names
returns-in-35 c = let it = arm later_text c.in-35.is (took (later_text 35) (c.put_bytes-in-35.ensures.answer, c.put_bytes-in-35.ensures.buffer)) in record { answer = it.0; buffer = it.1 }

pub returns-in-36 : goal.returns-in-36
unfolding later_text name_text element_name names
returns-in-36 c = let it = arm later_text c.in-36.is (took (later_text 36) (c.put_bytes-in-36.ensures.answer, c.put_bytes-in-36.ensures.buffer)) in record { answer = it.0; buffer = it.1 }

pub returns-in-37 : goal.returns-in-37
unfolding later_text name_text element_name names
returns-in-37 c = let it = arm later_text c.in-37.is (took (later_text 37) (c.put_bytes-in-37.ensures.answer, c.put_bytes-in-37.ensures.buffer)) in record { answer = it.0; buffer = it.1 }

pub returns-in-38 : goal.returns-in-38
unfolding later_text name_text element_name names
returns-in-38 c = let it = arm later_text c.in-38.is (took (later_text 38) (c.put_bytes-in-38.ensures.answer, c.put_bytes-in-38.ensures.buffer)) in record { answer = it.0; buffer = it.1 }

pub returns-in-39 : goal.returns-in-39
unfolding later_text name_text element_name names
returns-in-39 c = let it = arm later_text c.in-39.is (took (later_text 39) (c.put_bytes-in-39.ensures.answer, c.put_bytes-in-39.ensures.buffer)) in record { answer = it.0; buffer = it.1 }

pub returns-in-40 : goal.returns-in-40
unfolding later_text name_text element_name names
returns-in-40 c = let it = arm later_text c.in-40.is (took (later_text 40) (c.put_bytes-in-40.ensures.answer, c.put_bytes-in-40.ensures.buffer)) in record { answer = it.0; buffer = it.1 }

pub returns-in-41 : goal.returns-in-41
unfolding later_text name_text element_name names
returns-in-41 c = let it = arm later_text c.in-41.is (took (later_text 41) (c.put_bytes-in-41.ensures.answer, c.put_bytes-in-41.ensures.buffer)) in record { answer = it.0; buffer = it.1 }

pub returns-in-42 : goal.returns-in-42
unfolding later_text name_text element_name names
returns-in-42 c = let it = arm later_text c.in-42.is (took (later_text 42) (c.put_bytes-in-42.ensures.answer, c.put_bytes-in-42.ensures.buffer)) in record { answer = it.0; buffer = it.1 }

pub returns-in-43 : goal.returns-in-43
unfolding later_text name_text element_name names
returns-in-43 c = let it = arm later_text c.in-43.is (took (later_text 43) (c.put_bytes-in-43.ensures.answer, c.put_bytes-in-43.ensures.buffer)) in record { answer = it.0; buffer = it.1 }

pub returns-in-44 : goal.returns-in-44
unfolding later_text name_text element_name names
returns-in-44 c = let it = arm later_text c.in-44.is (took (later_text 44) (c.put_bytes-in-44.ensures.answer, c.put_bytes-in-44.ensures.buffer)) in record { answer = it.0; buffer = it.1 }

pub returns-in_default : goal.returns-in_default
returns-in_default c = let none : NoneFrom 32 13 c.args.e = search rules in let it = told (none-later _ none) (put-none _ _ c.requires.place) in record { answer = it.0; buffer = it.1 }
