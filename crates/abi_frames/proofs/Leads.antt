-- What code leads to, one piece behind the other, and what follows from it.
use Rattle.std.proofs.Common.{List, ◌++◌}
use Rattle.abi_frames.proofs.Shared.{State, Item}
use Rattle.rv_isa.specs.Prelude.{Fixed}
use Rattle.operation_code.proofs.Leading.{Site, Leads, leads_then, leads_so, leads_fixed}

pub leads_on : {c : Site} {is js : List Item} {s : State} {P Q : State → Type 0} → Leads c is s P → ((u : State) → Fixed c.ground u → P u → Leads c js u Q) → Leads c (is ++ js) s Q
leads_on {c} {is} {js} {s} {P} {Q} first second = leads_then c is js s P Q first second

pub leads_as : {c : Site} {is : List Item} {s : State} {P Q : State → Type 0} → Leads c is s P → ((u : State) → Fixed c.ground u → P u → Q u) → Leads c is s Q
leads_as {c} {is} {s} {P} {Q} first so = leads_so c is s P Q first so

-- with what is known of the state only where the machine comes there
pub leads_where : {c : Site} {is : List Item} {s : State} {P : State → Type 0} → (Fixed c.ground s → Leads c is s P) → Leads c is s P
leads_where {c} {is} {s} {P} by = leads_fixed c is s P by
