-- How a server ends, handed on to the program.
pub use Rattle.lake_host.specs.declared.server.ServerEnd.TheVariants.{Done, Failed, NoMemory}
