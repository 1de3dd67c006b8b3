-- Every rule opened by one word, for the worked examples: `unfolding rules` computes with all of them.
use Prim.Native.Nat.{ℕ}
use Rattle.definition.specs.Choice.{first_of}
use Rattle.definition.specs.Units.{pixels_of, moved}
use Rattle.definition.specs.Image.{pixel_at, in_field, inside, byte_of, digit, put_digit, digit_at, store, stores}
use Rattle.definition.specs.File.{keeps, keep_below, head_doors, segment_doors, file_doors, fetch, fetch_refusals}
use Rattle.definition.specs.Words.{sets_mode, not_built, order, move, item, decode, is_code, first_refusals, second_refusals}
use Rattle.definition.specs.Vector.{longer, by_one, rounded, nth, numbered, vector}
use Rattle.definition.specs.Characters.{chosen, cell_of, gathered, row_pixels, cell_pixels}
use Rattle.definition.specs.Machine.{in_range, is_mode, is_status, ranged, machine_doors}
use Rattle.definition.specs.Step.{ordered, done, way_refusals, refusals, refusal, step}
use Rattle.definition.specs.Run.{run}
use Rattle.definition.specs.Calls.{image_doors, budget_doors, set_doors, running_doors, field_doors, check_call, start_call, run_doors, run_door, run_call, clear_call, read_call}
use Rattle.definition.specs.Plot.{words_in, input_doors, plot_line, figures, printed, text, plot_text}

unfoldable pub rules : ℕ
unfolding first_of pixels_of moved pixel_at in_field inside byte_of digit put_digit digit_at store stores keeps keep_below head_doors segment_doors file_doors fetch fetch_refusals sets_mode not_built order move item decode is_code first_refusals second_refusals longer by_one rounded nth numbered vector chosen cell_of gathered row_pixels cell_pixels in_range is_mode is_status ranged machine_doors ordered done way_refusals refusals refusal step run image_doors budget_doors set_doors running_doors field_doors check_call start_call run_doors run_door run_call clear_call read_call words_in input_doors plot_line figures printed text plot_text
rules = 0
