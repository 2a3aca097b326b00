-- From every start of the executable: the stack is usable, the start memory is shown, and so the program is executed.
use Rattle.std.proofs.Common.{◌≡◌, ℕ, suc, ◌+◌, ◌%◌, ◌<◌, ◌≤◌, List, [], ◌∷◌, ◌++◌, length, refl, ◌∙◌, ap, arith, lit<, slice_get, Some}
use Rattle.il_ast.specs.declared.function.Param.{Param}
use Rattle.il_ast.specs.declared.program.Program.{Program}
use Rattle.il_ast.specs.declared.value.Callee.{Callee}
use Rattle.il_ast.specs.Prelude.{main_args, params_of}
use Rattle.rv_isa.specs.Prelude.{State, stack_top, stack_bottom}
use Rattle.elf_file.specs.Conditions.{Executable}
use Rattle.rv_machine.specs.Starts.{Starts}
use Rattle.flat_code.specs.Flat.{AreEntries, AllShow}
use Rattle.abi_frames.specs.Performs.{IsUsable}
use Rattle.headline.specs.Knot.{IsSetting}
use Rattle.headline.specs.Executables.{Places, DataStands, word_places, first_word, start_places, setting_of, start_spots, main_numbers, ExecutableRuns}
use Rattle.headline.proofs.StartMemory.{objects_count, start_shown, stack_clear}
use Rattle.headline.proofs.Executed.{program_is_executed}
use Rattle.il_ast.proofs.Listed.{get_behind}

usable : (at : Places) (x : Executable) (words : List (List ℕ)) (s : State) → Starts x words s → (a : ℕ) → stack_bottom ≤ a → a < stack_top → IsUsable (setting_of at words s).world.memory_map a
usable at x words s starts a low high =
    record {
      readable = starts.begins.readable a low (omega arith);
      writable = starts.begins.writable a low (omega arith);
      small = omega arith;
    }

pub setting_is : (at : Places) (x : Executable) (words : List (List ℕ)) (s : State) → Starts x words s → AreEntries at.entries → ((f : Callee) (a : ℕ) → at.entries f ≡ Some a → a % 4 ≡ 0) → IsSetting (setting_of at words s)
setting_is at x words s starts entries aligned =
    record {
      world = record { usable = λ a low high. usable at x words s starts a low high; above_zero = lit< tt; small = lit< tt };
      entries = entries;
      aligned = aligned;
    }

count_places : (at : ℕ) (words : List (List ℕ)) → length (word_places at words) ≡ length words
count_places at [] = refl
count_places at (w ∷ words) = ap suc (count_places (at + (length w + 1)) words)

-- the argument list is the last of the blocks
list_place : (p : Program) (at : Places) (x : Executable) (words : List (List ℕ)) → DataStands p at x → slice_get (start_places at.objects words) (length p.objects + length words) ≡ Some (stack_top + 8)
list_place p at x words there =
    let places = word_places (first_word words) words in
    let last = (stack_top + 8) ∷ [] in
    let count : length p.objects ≡ length at.objects = objects_count p at x there in
    let texts : length places ≡ length words = count_places (first_word words) words in
    let here : length p.objects + length words ≡ length at.objects + (length places + 0) = omega arith in
    ap (slice_get (start_places at.objects words)) here ∙ (get_behind at.objects (places ++ last) (length places + 0) ∙ get_behind places last 0)

args_shown : (p : Program) (at : Places) (x : Executable) (words : List (List ℕ)) (s : State) → DataStands p at x → (params : List Param) → AllShow at.entries (setting_of at words s).start (main_args (length p.objects) (length words) params) (main_numbers words params)
args_shown p at x words s there [] = tt
args_shown p at x words s there (y ∷ ys) = (refl, ((stack_top + 8, list_place p at x words there, refl), tt))

pub executable_runs : ExecutableRuns
executable_runs p at x words s starts few short there entries aligned functions natives start =
    program_is_executed (setting_of at words s) p words s (setting_is at x words s starts entries aligned) functions natives (omega arith) starts.begins.silent
    (record {
      at = start.main;
      is_main = start.is_main;
      sp = start.sp;
      stack = start.stack;
      memory = start_spots at words s;
      shows = start_shown p at x words s starts there few short;
      clear = λ a low high. (let below = start.stack.below in stack_clear p at x words s there a low (omega arith));
      args = main_numbers words (params_of (slice_get p.functions p.main));
      args_show = args_shown p at x words s there (params_of (slice_get p.functions p.main));
      steps = start.steps;
      called = start.called;
      comes = start.comes;
      output = start.output ∙ starts.begins.silent;
      ready = start.ready;
      leaving = start.leaving;
      leaves = start.leaves;
      price = start.price;
    })
