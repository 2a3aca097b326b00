-- What words of the pipeline stand for.
use Rattle.std.proofs.Common.{◌+◌, ◌*◌, ◌≤◌, List, [], length, Option, Some, None, arith, Result, Ok, Err, IfOk, IfSome}
use Rattle.il_ast.specs.declared.function.Func.{Func}
use Rattle.il_ast.specs.declared.program.InText.{InText}
use Rattle.il_ast.specs.declared.program.Program.{Program}
use Rattle.il_ast.specs.Prelude.{need, weight, IsCodeOf}
use Rattle.vcode.specs.declared.function.LFunc.{LFunc}
use Rattle.vcode.specs.declared.function.VFunc.{VFunc}
use Rattle.vcode.specs.Prelude.{location_code, code_weight}
use Rattle.flat_code.specs.Laws.{FlatKept}
use Rattle.abi_frames.specs.Performs.{frame_bound}
use Rattle.rv_isa.specs.Prelude.{Words}
use Rattle.asm_layout.specs.declared.call.CallForm.{CallForm}
use Rattle.headline.specs.Executables.{IsCodeIn}
use Rattle.headline.specs.Compiled.{StandIn}
use Rattle.headline.proofs.InPlace.{code_is_in}
use Rattle.qbec.specs.Pipeline.{IsCodeWith, IsLaidOut, StandWithin}

pub stands_in : (form : CallForm) (p : Program) (f : InText Func) (l : LFunc) (c : Words) → IsCodeIn p f (location_code l) → FlatKept l.code → frame_bound l.code l.slots ≤ need f.item → IsLaidOut form l c → StandIn p f c
stands_in form p f l c is bytes fits laid =
    record { code = l.code; slots = l.slots; items = laid.items; is = is; fits = fits; bytes = bytes; machine = laid.machine; laid = laid.laid }

-- without candidates, and not too many
pub stands_within : (form : CallForm) (f : Func) (l : LFunc) (c : Words) → IsCodeOf f (location_code l) → FlatKept l.code → frame_bound l.code l.slots ≤ need f → code_weight l.code ≤ weight f → IsLaidOut form l c → StandWithin form [] f c
stands_within form f l c is bytes fits weighs laid =
    let few = laid.few in (
      λ p text are. stands_in form p (record { text = text; item = f }) l c (code_is_in p (record { text = text; item = f }) (location_code l) is) bytes fits laid,
      omega (arith, few, weighs),
      laid.calls,
    )

-- with candidates, where they fit
pub stand_within : {E : Type 0} (form : CallForm) (candidates : List (Option VFunc)) (f : Func) (l : LFunc) → IsCodeWith candidates f (location_code l) → FlatKept l.code → (r : Result (Option Words) E)
    → IfOk r (λ o. IfSome o (λ c. IsLaidOut form l c × (frame_bound l.code l.slots ≤ need f) × (length c.words ≤ 32 * weight f + 256))) → IfOk r (λ o. IfSome o (λ c. StandWithin form candidates f c))
stand_within form candidates f l is bytes (Ok None) h = tt
stand_within form candidates f l is bytes (Ok (Some c)) h = (λ p text are. stands_in form p (record { text = text; item = f }) l c (is p text are) bytes h.1 h.0, h.2, h.0.calls)
stand_within form candidates f l is bytes (Err e) h = tt
