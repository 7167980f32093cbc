-- The words that the program was started with.
use Rattle.std.specs.Prelude.{ℕ, ◌+◌, ◌-◌, ◌*◌, ◌^◌, ◌&&◌, nat_lt, nat_le, Bool, if◌then◌else◌, codes}
use Rattle.std.specs.Prelude.{List, [], ◌∷◌, length, Option, Some, None, option_map}
use Rattle.std.specs.Char.{is_ascii_digit}
use Rattle.std.specs.List.{list_all}
use Rattle.std.specs.Str.{bytes_eq}
use Rattle.program_words.specs.declared.batch.Timing.{Timing}
use Rattle.program_words.specs.declared.batch.Timing.TheVariants.{Clock, At}
use Rattle.program_words.specs.declared.generator.Generator.{Generator}
use Rattle.program_words.specs.declared.service.Service.{Service}

-- the number whose decimal digits are those of n and then these
abbrev pub number_after : ℕ → List ℕ → ℕ
number_after n [] = n
number_after n (digit ∷ digits) = number_after (10 * n + (digit - 48)) digits

-- a number of 1 to 19 decimal digits
abbrev pub is_number : List ℕ → Bool
is_number text = nat_lt 0 (length text) && nat_le (length text) 19 && list_all is_ascii_digit text

-- Where the words are those of a batch, when its requests are made.
abbrev pub timing_of : List (List ℕ) → Option Timing
timing_of (batch ∷ []) = if bytes_eq batch (codes "batch") then Some Clock else None
timing_of (batch ∷ at ∷ number ∷ []) =
    if bytes_eq batch (codes "batch") && bytes_eq at (codes "--at") && is_number number
    then Some (At (number_after 0 number))
    else None
timing_of words = None

-- ---- a server

-- a number of 1 to 19 decimal digits, and the number that it spells
abbrev pub number_in : List ℕ → Option ℕ
number_in text = if is_number text then Some (number_after 0 text) else None

-- a number of workers, which is 1 to 64
abbrev pub workers_in : List ℕ → Option ℕ
workers_in text =
    if is_number text && (nat_le 1 (number_after 0 text) && nat_le (number_after 0 text) 64) then Some (number_after 0 text) else None

-- a server of so many workers, and so many connections, where both are spelled
abbrev pub both_of : (workers connections : Option ℕ) → Option Service
both_of (Some workers) (Some connections) = Some (record { workers = workers; connections = Some connections })
both_of (Some workers) None = None
both_of None connections = None

-- what the options of a server ask: they stand in this order, each at most once; without a number there are four workers
abbrev pub options_of : List (List ℕ) → Option Service
options_of [] = Some (record { workers = 4; connections = None })
options_of (name ∷ value ∷ []) =
    if bytes_eq name (codes "--workers") then option_map (λ workers. record { workers = workers; connections = None }) (workers_in value)
    else if bytes_eq name (codes "--connections") then option_map (λ number. record { workers = 4; connections = Some number }) (number_in value)
    else None
options_of (name ∷ value ∷ other ∷ count ∷ []) =
    if bytes_eq name (codes "--workers") && bytes_eq other (codes "--connections") then both_of (workers_in value) (number_in count) else None
options_of options = None

-- a server at an address
pub record Serving : Type 0 where
  pub at : List ℕ
  pub service : Service

-- Where the words are those of a server, at which address, and what it is asked to do.
abbrev pub service_of : List (List ℕ) → Option Serving
service_of (run ∷ listen ∷ at ∷ options) =
    if bytes_eq run (codes "run") && bytes_eq listen (codes "--listen") && nat_lt 0 (length at)
    then option_map (λ service. record { at = at; service = service }) (options_of options) else None
service_of words = None

-- ---- a command that goes to a server

-- a command's words, and the address of the server that they go to
pub record Control : Type 0 where
  pub at : List ℕ
  pub words : List (List ℕ)

-- what goes to which server
abbrev pub called_of : List (List ℕ) → Option Control
called_of (server ∷ at ∷ words) =
    if bytes_eq server (codes "--server") && nat_lt 0 (length at) then Some (record { at = at; words = words }) else None
called_of words = None

-- the same behind a moment, which has no effect on a server
abbrev pub timed_of : List (List ℕ) → Option Control
timed_of (at ∷ number ∷ words) =
    if bytes_eq at (codes "--at") && is_number number then called_of words else called_of (at ∷ number ∷ words)
timed_of words = called_of words

-- Where the words are those of a command, what goes to which server.
abbrev pub control_of : List (List ℕ) → Option Control
control_of (ctl ∷ words) = if bytes_eq ctl (codes "ctl") then timed_of words else None
control_of words = None

-- ---- a lake in a folder

-- the option that names its folder, which isn't empty
abbrev pub is_folder : (local folder : List ℕ) → Bool
is_folder local folder = bytes_eq local (codes "--local") && nat_lt 0 (length folder)

-- a batch on the lake of a folder
pub record LocalBatch : Type 0 where
  pub timing : Timing
  pub folder : List ℕ

-- Where the words are those of such a batch, when its requests are made, and the folder.
abbrev pub local_batch_of : List (List ℕ) → Option LocalBatch
local_batch_of (batch ∷ local ∷ folder ∷ []) =
    if bytes_eq batch (codes "batch") && is_folder local folder then Some (record { timing = Clock; folder = folder }) else None
local_batch_of (batch ∷ at ∷ number ∷ local ∷ folder ∷ []) =
    if bytes_eq batch (codes "batch") && bytes_eq at (codes "--at") && is_number number && is_folder local folder
    then Some (record { timing = At (number_after 0 number); folder = folder }) else None
local_batch_of words = None

-- a command on the lake of a folder
pub record LocalCommand : Type 0 where
  pub timing : Timing
  pub folder : List ℕ
  pub words : List (List ℕ)

-- which command on the lake of which folder
abbrev pub command_in : Timing → List (List ℕ) → Option LocalCommand
command_in timing (local ∷ folder ∷ words) =
    if is_folder local folder then Some (record { timing = timing; folder = folder; words = words }) else None
command_in timing words = None

-- the same behind the moment of its request, else by the clock
abbrev pub timed_command_of : List (List ℕ) → Option LocalCommand
timed_command_of (at ∷ number ∷ words) =
    if bytes_eq at (codes "--at") && is_number number then command_in (At (number_after 0 number)) words
    else command_in Clock (at ∷ number ∷ words)
timed_command_of words = command_in Clock words

-- Where the words are those of such a command, when its request is made, the folder, and its own words.
abbrev pub local_command_of : List (List ℕ) → Option LocalCommand
local_command_of (ctl ∷ words) = if bytes_eq ctl (codes "ctl") then timed_command_of words else None
local_command_of words = None

-- a server of the lake of a folder, at an address
pub record LocalServing : Type 0 where
  pub at : List ℕ
  pub folder : List ℕ
  pub service : Service

-- Where the words are those of such a server, at which address, over which folder, and what it is asked to do.
abbrev pub local_serving_of : List (List ℕ) → Option LocalServing
local_serving_of (run ∷ listen ∷ at ∷ named ∷ folder ∷ options) =
    if bytes_eq run (codes "run") && bytes_eq listen (codes "--listen") && nat_lt 0 (length at)
    && bytes_eq named (codes "--folder") && nat_lt 0 (length folder)
    then option_map (λ service. record { at = at; folder = folder; service = service }) (options_of options) else None
local_serving_of words = None

-- ---- the generator

-- the number that these digits spell, where it is below 2^64
abbrev pub value_in : List ℕ → Option ℕ
value_in digits = if nat_lt (number_after 0 digits) (2 ^ 64) then Some (number_after 0 digits) else None

-- a number of 1 to 20 decimal digits below 2^64
abbrev pub start_in : List ℕ → Option ℕ
start_in text = if nat_lt 0 (length text) && nat_le (length text) 20 && list_all is_ascii_digit text then value_in text else None

-- a number of objects, which is 1 to 100,000
abbrev pub objects_in : List ℕ → Option ℕ
objects_in text =
    if is_number text && (nat_le 1 (number_after 0 text) && nat_le (number_after 0 text) 100000) then Some (number_after 0 text) else None

-- so many objects from this number on, where both are spelled
abbrev pub made_of : (number objects : Option ℕ) → Option Generator
made_of (Some number) (Some objects) = Some (record { number = number; objects = objects })
made_of (Some number) None = None
made_of None objects = None

-- Where the words are those of the generator, what it is asked for.
abbrev pub generator_of : List (List ℕ) → Option Generator
generator_of (gen ∷ name ∷ number ∷ other ∷ objects ∷ []) =
    if bytes_eq gen (codes "gen") && bytes_eq name (codes "--number") && bytes_eq other (codes "--objects")
    then made_of (start_in number) (objects_in objects) else None
generator_of words = None

-- ---- all words

-- what the program can be asked to do
pub data Asked : Type 0 where
  Batch : Timing → Asked
  Serve : Serving → Asked
  Send : Control → Asked
  Generate : Generator → Asked
  -- the same on the lake of a folder
  BatchIn : LocalBatch → Asked
  ServeIn : LocalServing → Asked
  CommandIn : LocalCommand → Asked
  -- the words are none of its own
  Nothing : Asked

abbrev pub first_local : Option LocalBatch → Option LocalServing → Option LocalCommand → Asked
first_local (Some batch) serving command = BatchIn batch
first_local None (Some serving) command = ServeIn serving
first_local None None (Some command) = CommandIn command
first_local None None None = Nothing

abbrev pub first_asked : Option Timing → Option Serving → Option Control → Option Generator → (rest : Asked) → Asked
first_asked (Some timing) serving control generator rest = Batch timing
first_asked None (Some serving) control generator rest = Serve serving
first_asked None None (Some control) generator rest = Send control
first_asked None None None (Some generator) rest = Generate generator
first_asked None None None None rest = rest

-- what they ask for of the lake of a folder
abbrev pub local_asked_of : List (List ℕ) → Asked
local_asked_of words = first_local (local_batch_of words) (local_serving_of words) (local_command_of words)

-- WHAT THE WORDS ASK FOR
abbrev pub asked_of : List (List ℕ) → Asked
asked_of words = first_asked (timing_of words) (service_of words) (control_of words) (generator_of words) (local_asked_of words)
