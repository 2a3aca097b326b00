use Rattle.commands.proofs.tell.tell.Goals as goal

pub returns-in-Halt : goal.returns-in-Halt
returns-in-Halt g c = rw c.in-Halt.is c.tell_bytes.ensures

pub returns-in-Limit : goal.returns-in-Limit
returns-in-Limit g c = rw c.in-Limit.is c.tell_bytes-in-Limit.ensures

pub returns-in-Undefined : goal.returns-in-Undefined
returns-in-Undefined g c = rw c.in-Undefined.is c.tell_bytes-in-Undefined.ensures

pub returns-in-Stack : goal.returns-in-Stack
returns-in-Stack g c = rw c.in-Stack.is c.tell_bytes-in-Stack.ensures

pub returns-in-Memory : goal.returns-in-Memory
returns-in-Memory g c = rw c.in-Memory.is c.tell_bytes-in-Memory.ensures

pub returns-in-Output : goal.returns-in-Output
returns-in-Output g c = rw c.in-Output.is c.tell_bytes-in-Output.ensures

pub returns-in-Fault : goal.returns-in-Fault
returns-in-Fault g c = rw c.in-Fault.is c.tell_fault.ensures

pub returns-in-Refused : goal.returns-in-Refused
returns-in-Refused g c = rw c.in-Refused.is c.tell_refusal.ensures

pub returns-in-Unread : goal.returns-in-Unread
returns-in-Unread g c = rw (c.in-Unread.is, ← c.as_bytes.ensures.value) c.tell_named.ensures

pub returns-in-Unwritten : goal.returns-in-Unwritten
returns-in-Unwritten g c = rw (c.in-Unwritten.is, ← c.as_bytes-in-Unwritten.ensures.value) c.tell_named-in-Unwritten.ensures
