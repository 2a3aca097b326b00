use Rattle.commands.proofs.tell.tell_refusal.Goals as goal

pub returns-in-Syntax : goal.returns-in-Syntax
returns-in-Syntax g c = rw c.in-Syntax.is c.tell_syntax.ensures

pub returns-in-Rule : goal.returns-in-Rule
returns-in-Rule g c = rw c.in-Rule.is c.tell_rule.ensures

pub returns-in-UnknownName : goal.returns-in-UnknownName
returns-in-UnknownName g c = rw (c.in-UnknownName.is, ← c.as_slice.ensures.value) c.tell_named.ensures

pub returns-in-ExportedTwice : goal.returns-in-ExportedTwice
returns-in-ExportedTwice g c = rw (c.in-ExportedTwice.is, ← c.as_slice-in-ExportedTwice.ensures.value) c.tell_named-in-ExportedTwice.ensures

pub returns-in-NoMain : goal.returns-in-NoMain
returns-in-NoMain g c = rw c.in-NoMain.is c.tell_bytes.ensures

pub returns-in-Limit : goal.returns-in-Limit
returns-in-Limit g c = rw c.in-Limit.is c.tell_bytes-in-Limit.ensures

pub returns-in-Memory : goal.returns-in-Memory
returns-in-Memory g c = rw c.in-Memory.is c.tell_bytes-in-Memory.ensures

pub returns-in-Words : goal.returns-in-Words
returns-in-Words g c = rw c.in-Words.is c.tell_bytes-in-Words.ensures

pub returns-in-File : goal.returns-in-File
returns-in-File g c = rw (c.in-File.is, ← c.file_number.ensures, ← c.as_bytes.ensures.value) c.tell_named-in-File.ensures
