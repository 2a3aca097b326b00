-- That endings are those of a function has at most one proof, so that a type may have it for an
-- invariant. No public promise names what stands here.
use Rattle.std.specs.Prelude.{ℕ, ◌+◌, List, [], ◌∷◌, length, Option, Some, None}
use Rattle.std.proofs.Props.{props}
use Rattle.il_ast.specs.declared.operation.Class.{Class}
use Rattle.il_ast.specs.declared.operation.Class.TheVariants.{W, L}
use Rattle.il_ast.specs.declared.operand.Val.{Val}
use Rattle.il_ast.specs.declared.operand.Val.TheVariants.{Int, Temp, Global}
use Rattle.il_ast.specs.declared.instruction.Jump.{Jump}
use Rattle.il_ast.specs.declared.instruction.Jump.TheVariants.{Goto, Branch, Return, Halt}
use Rattle.il_ast.specs.declared.instruction.Lined.{Lined}
use Rattle.il_ast.specs.declared.block.Block.{Block}
use Rattle.il_ast.specs.declared.function.Func.{Func}
use Rattle.phi_copies.specs.declared.ending.Assignment.{Assignment}
use Rattle.phi_copies.specs.declared.ending.Ending.{Ending}
use Rattle.phi_copies.specs.Classed.{Classes, Fits, CopiesFit}
use Rattle.phi_copies.specs.Copies.{ValueBelow, CopiesBelow, AreCopies}
use Rattle.phi_copies.specs.Endings.{Endings}
use Rattle.phi_copies.specs.Lowered.{Edge, block_edges, straight, IsGoto, IsJumpEnding, IsEndEnding, AreEndings, IsOnEdge, AreOnEdges, IsLowered}

fits_prop : (classes : Classes) (c : Class) (a : Val) → IsProp (Fits classes c a)
fits_prop classes W a = hlevel props
fits_prop classes L (Int n) = hlevel props
fits_prop classes L (Temp t) = hlevel props
fits_prop classes L (Global g) = hlevel props

copies_fit_prop : (classes : Classes) (cs : List Assignment) → IsProp (CopiesFit classes cs)
copies_fit_prop classes [] = hlevel props
copies_fit_prop classes (c ∷ cs) =
    hlevel (props, fits_prop classes c.to.class c.value, copies_fit_prop classes cs)

value_below_prop : (n : ℕ) (a : Val) → IsProp (ValueBelow n a)
value_below_prop n (Int m) = hlevel props
value_below_prop n (Temp t) = hlevel props
value_below_prop n (Global g) = hlevel props

copies_below_prop : (n : ℕ) (cs : List Assignment) → IsProp (CopiesBelow n cs)
copies_below_prop n [] = hlevel props
copies_below_prop n (c ∷ cs) = hlevel (props, value_below_prop n c.value, copies_below_prop n cs)

are_copies_prop : (f : Func) (from k : ℕ) (cs : List Assignment) → IsProp (AreCopies f from k cs)
are_copies_prop f from k cs = hlevel (props, copies_fit_prop, copies_below_prop)

goto_prop : (f : Func) (from k : ℕ) (e : Ending) → IsProp (IsGoto f from k e)
goto_prop f from k e = hlevel (props, are_copies_prop)

jump_ending_prop : (f : Func) (from number : ℕ) (j : Jump) (e : Ending) →
    IsProp (IsJumpEnding f from number j e)
jump_ending_prop f from number (Goto l) e = goto_prop f from _ e
jump_ending_prop f from number (Branch on nonzero otherwise) e = hlevel props
jump_ending_prop f from number (Return a) e = hlevel props
jump_ending_prop f from number Halt e = hlevel props

end_ending_prop : (f : Func) (from number : ℕ) (j : Option (Lined Jump)) (e : Ending) →
    IsProp (IsEndEnding f from number j e)
end_ending_prop f from number None e = hlevel props
end_ending_prop f from number (Some j) e = jump_ending_prop f from number (straight j.item) e

endings_prop : (f : Func) (number : ℕ) (blocks : List Block) (es : List Ending) →
    IsProp (AreEndings f number blocks es)
endings_prop f number [] [] = hlevel props
endings_prop f number [] (e ∷ es) = hlevel props
endings_prop f number (b ∷ blocks) [] = hlevel props
endings_prop f number (b ∷ blocks) (e ∷ es) =
    hlevel (
      props,
      end_ending_prop f b.label number b.jump e,
      endings_prop f (number + length (block_edges f b)) blocks es,
    )

on_edge_prop : (f : Func) (w : Edge) (e : Ending) → IsProp (IsOnEdge f w e)
on_edge_prop f w e = hlevel (props, are_copies_prop)

on_edges_prop : (f : Func) (ws : List Edge) (es : List Ending) → IsProp (AreOnEdges f ws es)
on_edges_prop f [] [] = hlevel props
on_edges_prop f [] (e ∷ es) = hlevel props
on_edges_prop f (w ∷ ws) [] = hlevel props
on_edges_prop f (w ∷ ws) (e ∷ es) = hlevel (props, on_edge_prop f w e, on_edges_prop f ws es)

pub lowered_prop : (f : Func) (code : Endings) → IsProp (IsLowered f code)
lowered_prop f code = hlevel (props, endings_prop, on_edges_prop)
