-- Words on hosts and servers, handed on to the program.
pub use Rattle.lake_host.specs.Doors.{HostView}
pub use Rattle.lake_host.specs.Servers.{HasNotBegun, HasServedAll}
pub use Rattle.lake_host.specs.Workers.{StoreView}
pub use Rattle.lake_host.specs.declared.server.ServerEnd.{ServerEnd}
