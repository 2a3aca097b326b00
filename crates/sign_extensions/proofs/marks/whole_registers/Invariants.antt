use Rattle.sign_extensions.proofs.marks.whole_registers.Given as goal

abbrev pub invariant-loop : goal.invariant-loop
invariant-loop l = Unit {0}
