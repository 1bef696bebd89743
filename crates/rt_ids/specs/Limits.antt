-- The limits in numbers, as docs/LANGUAGE.md and docs/MACHINE.md have them. Everything else names them.
use Rattle.std.specs.Prelude.{◌≡◌}
use Rattle.rt_ids.specs.declared.limits.TheConstants.{TEXT_BYTES, SCRIPT_BYTES, SCRIPT_EVENTS, DEVICES, TRACE_BYTES}
use Rattle.rt_ids.specs.declared.limits.TheConstants.{IRQ_NUMBERS, THREAD_VALUE, IRQS, TASKS, SHARED, LOCALS, ARGUMENTS}
use Rattle.rt_ids.specs.declared.limits.TheConstants.{CAPACITY, NESTING, PARENTHESES, DEPTH, TURNS, LONGEST_DELAY}
use Rattle.rt_ids.specs.declared.limits.TheConstants.{NAME_BYTES, STATEMENTS, BODY_COST, CODE_SIZE, LEAST_BITS}
use Rattle.rt_ids.specs.declared.limits.TheConstants.{MOST_BITS}
use Rattle.rt_ids.specs.declared.exception.TheConstants.{BASIC_FRAME_WORDS, EXTENDED_FRAME_WORDS}

-- the limits of application texts, scripts, traces and applications, as numbers
pub record TellLimits : Type 0 where
  pub text_bytes : TEXT_BYTES ≡ 262144
  pub script_bytes : SCRIPT_BYTES ≡ 1048576
  pub script_events : SCRIPT_EVENTS ≡ 1000000
  pub devices : DEVICES ≡ 16
  pub trace_bytes : TRACE_BYTES ≡ 268435456
  pub irq_numbers : IRQ_NUMBERS ≡ 496
  pub thread_value : THREAD_VALUE ≡ 256
  pub irqs : IRQS ≡ 240
  pub tasks : TASKS ≡ 64
  pub shared : SHARED ≡ 64
  pub locals : LOCALS ≡ 64
  pub arguments : ARGUMENTS ≡ 4
  pub capacity : CAPACITY ≡ 16
  pub nesting : NESTING ≡ 16
  pub parentheses : PARENTHESES ≡ 64
  pub depth : DEPTH ≡ 16
  pub turns : TURNS ≡ 1000
  pub longest_delay : LONGEST_DELAY ≡ 2147483647
  pub name_bytes : NAME_BYTES ≡ 32
  pub statements : STATEMENTS ≡ 1000
  pub body_cost : BODY_COST ≡ 1000000
  pub code_size : CODE_SIZE ≡ 65535
  pub least_bits : LEAST_BITS ≡ 3
  pub most_bits : MOST_BITS ≡ 7

-- the sizes of exception frames, as numbers of words
pub record TellFrames : Type 0 where
  pub basic : BASIC_FRAME_WORDS ≡ 8
  pub extended : EXTENDED_FRAME_WORDS ≡ 26
